use Rattle.std.proofs.Common.{◌≡◌, ◌+◌, ◌-◌, ◌*◌, ◌/◌, ◌%◌, ◌<◌, ◌≤◌, ℕ, zero, suc, Bool, true, false, List, [], ◌∷◌, ◌++◌, length, replicate, take, get_or, length-take, arith, refl, ◌∙◌, ap, inl, inr, nat_lt, if◌then◌else◌, length-append}
use Rattle.std.specs.Int.{bit_at}
use Rattle.std.proofs.Math.ListN.{get_or-append}
use Rattle.std.proofs.Math.Seq.{get_or-append_seam, get_or-append_right}
use Rattle.std.proofs.lemmas.Bool.{cases_eq}
use Rattle.std.proofs.lemmas.Bool.Decides.{nat_tests}
use Rattle.std.proofs.lemmas.List.{get_or-replicate, get_or-take, length-replicate}
use Rattle.reports.specs.Wanted.{members, listed, places_of, bytes_of, byte_of, boot_bytes, bitmap_bytes, bitmap_bit, consumer_listed, words_of, padded, consumer_bytes}
use Rattle.reports.specs.Layouts.{IsBootReport, IsBitmapReport, IsConsumerReport, bit_of, word_after_id}
use Rattle.reports.proofs.Members.{members-in, length-members-mono, length-places_of, le_test, gt_test}
use Rattle.reports.proofs.Bits.{bit_at-byte_of}

-- a number that passes has a place of its own
pub members-length : (test : ℕ → Bool) (first m n : ℕ) → m < n → test (first + m) ≡ true → length (members test first m) < length (members test first n)
members-length test first m n l e =
    omega (arith, ap length (members-in test first m e), length-append (members test first m) ((first + m) ∷ []), length-members-mono test first (m + 1) n (omega arith))

-- the place after those of the lesser ones
pub members-at : (test : ℕ → Bool) (first m n d : ℕ) → m < n → test (first + m) ≡ true → get_or (members test first n) (length (members test first m)) d ≡ first + m
unfolding members
members-at test first m zero d l e = absurd (omega arith)
members-at test first m (suc n) d l e = elim (cases_eq m n) [
  | inl same ↦ rw same (rw (rw same at e) (get_or-append_seam (members test first n) (first + n) [] d))
  | inr other ↦ get_or-append (members test first n) (if test (first + n) then (first + n) ∷ [] else []) d (length (members test first m)) (members-length test first m n (omega arith) e)
      ∙ members-at test first m n d (omega arith) e
]

get_or-replicate_default : (n i d : ℕ) → get_or (replicate n d) i d ≡ d
get_or-replicate_default zero i d = refl
get_or-replicate_default (suc n) zero d = refl
get_or-replicate_default (suc n) (suc i) d = get_or-replicate_default n i d

places-few : (usages : List ℕ) → length usages ≤ 6 → places_of usages ≡ usages ++ replicate (6 - length usages) 0
places-few usages l = rw (le_test (length usages) 6 l) refl

places-many : (usages : List ℕ) → 6 < length usages → places_of usages ≡ replicate 6 1
places-many usages l = rw (gt_test (length usages) 6 l) refl

place : (a b : ℕ) (xs : List ℕ) (k : ℕ) → get_or (a ∷ b ∷ xs) (2 + k) 0 ≡ get_or xs k 0
place a b xs k = let e : 2 + k ≡ suc (suc k) = omega arith in rw e refl

pub boot-layout : (keys : ℕ → Bool) → IsBootReport keys (boot_bytes keys)
unfolding boot_bytes
boot-layout keys =
    let m = byte_of (λ i. keys (224 + i)) in
    let usages = listed keys in
    record {
      size = omega (arith, length-places_of usages);
      modifiers = λ i l. bit_at-byte_of (λ i. keys (224 + i)) i l;
      reserved = refl;
      rising = λ few u low high in_set.
          let at : 4 + (u - 4) ≡ u = omega arith in
          let e : keys (4 + (u - 4)) ≡ true = rw at in_set in
          place m 0 (places_of usages) (length (members keys 4 (u - 4)))
          ∙ rw (places-few usages few) (get_or-append usages (replicate (6 - length usages) 0) 0 (length (members keys 4 (u - 4))) (members-length keys 4 (u - 4) 161 (omega arith) e))
          ∙ members-at keys 4 (u - 4) 161 0 (omega arith) e ∙ at;
      zeros = λ few p past l.
          place m 0 (places_of usages) p
          ∙ rw (places-few usages few) (get_or-append_right usages (replicate (6 - length usages) 0) p 0 past)
          ∙ get_or-replicate_default (6 - length usages) (p - length usages) 0;
      overflow = λ many p l.
          place m 0 (places_of usages) p ∙ rw (places-many usages many) (get_or-replicate {A = ℕ} 6 p 1 0 l);
    }

pub length-bytes_of : (test : ℕ → Bool) (n : ℕ) → length (bytes_of test n) ≡ n
unfolding bytes_of
length-bytes_of test zero = refl
length-bytes_of test (suc n) = omega (arith, length-append (bytes_of test n) (byte_of (λ i. test (8 * n + i)) ∷ []), length-bytes_of test n)

pub bytes_of-at : (test : ℕ → Bool) (n k : ℕ) → k < n → get_or (bytes_of test n) k 0 ≡ byte_of (λ i. test (8 * k + i))
unfolding bytes_of
bytes_of-at test zero k l = absurd (omega arith)
bytes_of-at test (suc n) k l = elim (cases_eq k n) [
  | inl e ↦ rw e (let s = get_or-append_seam (bytes_of test n) (byte_of (λ i. test (8 * n + i))) [] 0 in
      let len : length (bytes_of test n) ≡ n = length-bytes_of test n in
      rw len at s)
  | inr d ↦ get_or-append (bytes_of test n) (byte_of (λ i. test (8 * n + i)) ∷ []) 0 k (omega (arith, length-bytes_of test n)) ∙ bytes_of-at test n k (omega arith)
]

-- a bit of bytes after an ID
pub bit_after : (id : ℕ) (test : ℕ → Bool) (n b : ℕ) → b < 8 * n → bit_at (get_or (id ∷ bytes_of test n) (1 + b / 8) 0) (b % 8) ≡ bit_of (test b)
bit_after id test n b l =
    let e : 1 + b / 8 ≡ suc (b / 8) = omega arith in
    let whole : 8 * (b / 8) + b % 8 ≡ b = omega arith in
    rw (e, bytes_of-at test n (b / 8) (omega arith)) (bit_at-byte_of (λ i. test (8 * (b / 8) + i)) (b % 8) (omega arith) ∙ rw whole refl)

bitmap_bit-modifier : (keys : ℕ → Bool) (b : ℕ) → b < 8 → bitmap_bit keys b ≡ keys (224 + b)
bitmap_bit-modifier keys b l = let e : nat_lt b 8 ≡ true = grind (arith, nat_tests) in rw e refl

bitmap_bit-usage : (keys : ℕ → Bool) (u : ℕ) → 4 ≤ u → u ≤ 164 → bitmap_bit keys (8 + (u - 4)) ≡ keys u
bitmap_bit-usage keys u low high =
    let e : nat_lt (8 + (u - 4)) 8 ≡ false = grind (arith, nat_tests) in
    let f : nat_lt (8 + (u - 4)) 169 ≡ true = grind (arith, nat_tests) in
    let g : 8 + (u - 4) - 8 + 4 ≡ u = omega arith in
    rw (e, f, g) refl

bitmap_bit-padding : (keys : ℕ → Bool) (b : ℕ) → 169 ≤ b → bitmap_bit keys b ≡ false
bitmap_bit-padding keys b l =
    let e : nat_lt b 8 ≡ false = grind (arith, nat_tests) in
    let f : nat_lt b 169 ≡ false = grind (arith, nat_tests) in
    rw (e, f) refl

pub bitmap-layout : (keys : ℕ → Bool) → IsBitmapReport keys (bitmap_bytes keys)
unfolding bitmap_bytes
bitmap-layout keys = record {
  size = omega (arith, length-bytes_of (bitmap_bit keys) 22);
  id = refl;
  modifiers = λ i l. bit_after 1 (bitmap_bit keys) 22 i (omega arith) ∙ ap (λ b. bit_of b) (bitmap_bit-modifier keys i l);
  usages = λ u low high. bit_after 1 (bitmap_bit keys) 22 (8 + (u - 4)) (omega arith) ∙ ap (λ b. bit_of b) (bitmap_bit-usage keys u low high);
  padding = λ b low high. bit_after 1 (bitmap_bit keys) 22 b (omega arith) ∙ ap (λ b. bit_of b) (bitmap_bit-padding keys b low);
}

-- ---- four places of two bytes

words_of-low : (xs : List ℕ) (p : ℕ) → get_or (words_of xs) (2 * p) 0 ≡ get_or xs p 0 % 256
unfolding words_of
words_of-low [] p = refl
words_of-low (x ∷ xs) zero = refl
words_of-low (x ∷ xs) (suc p) = let e : 2 * suc p ≡ suc (suc (2 * p)) = omega arith in rw e (words_of-low xs p)

words_of-high : (xs : List ℕ) (p : ℕ) → get_or (words_of xs) (2 * p + 1) 0 ≡ get_or xs p 0 / 256
unfolding words_of
words_of-high [] p = refl
words_of-high (x ∷ xs) zero = refl
words_of-high (x ∷ xs) (suc p) = let e : 2 * suc p + 1 ≡ suc (suc (2 * p + 1)) = omega arith in rw e (words_of-high xs p)

-- the number in a place after the ID
word-after : (xs : List ℕ) (p : ℕ) → word_after_id (2 ∷ words_of xs) p ≡ get_or xs p 0
word-after xs p =
    let a : 1 + 2 * p ≡ suc (2 * p) = omega arith in
    let b : 2 + 2 * p ≡ suc (2 * p + 1) = omega arith in
    rw (a, b) (rw (words_of-low xs p, words_of-high xs p) (omega arith))

length-words_of : (xs : List ℕ) → length (words_of xs) ≡ 2 * length xs
unfolding words_of
length-words_of [] = refl
length-words_of (x ∷ xs) = omega (arith, length-words_of xs)

length-padded : (xs : List ℕ) → length xs ≤ 4 → length (padded xs) ≡ 4
length-padded xs l = omega (arith, length-append xs (replicate {A = ℕ} (4 - length xs) 0), length-replicate {A = ℕ} (4 - length xs) 0)

length-take4 : (xs : List ℕ) → length (take 4 xs) ≤ 4
length-take4 xs = omega (arith, length-take 4 xs)

pub consumer-layout : (consumer : ℕ → Bool) → IsConsumerReport consumer (consumer_bytes consumer)
unfolding consumer_bytes
consumer-layout consumer =
    let usages = consumer_listed consumer in
    let four = take 4 usages in
    record {
      size = omega (arith, length-words_of (padded four), length-padded four (length-take4 usages));
      id = refl;
      rising = λ u low high in_set few.
          let at : 1 + (u - 1) ≡ u = omega arith in
          let e : consumer (1 + (u - 1)) ≡ true = rw at in_set in
          let p = length (members consumer 1 (u - 1)) in
          let there : p < length usages = members-length consumer 1 (u - 1) 1023 (omega arith) e in
          let here : p < length four = omega (arith, length-take 4 usages) in
          word-after (padded four) p ∙ get_or-append four (replicate (4 - length four) 0) 0 p here ∙ get_or-take 4 usages p 0 few
          ∙ members-at consumer 1 (u - 1) 1023 0 (omega arith) e ∙ at;
      zeros = λ p past l.
          let all : length four ≤ p = omega (arith, length-take 4 usages) in
          word-after (padded four) p ∙ get_or-append_right four (replicate (4 - length four) 0) p 0 all
          ∙ get_or-replicate_default (4 - length four) (p - length four) 0;
    }
