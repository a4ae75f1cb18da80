-- Reports whose bytes lie in words.
use Rattle.std.proofs.Common.{◌≡◌, ◌+◌, ◌-◌, ◌*◌, ◌/◌, ◌%◌, ◌^◌, ◌<◌, ◌≤◌, ◌==◌, ◌&&◌, ℕ, zero, suc, Bool, true, false, List, [], ◌∷◌, length, map, take, replicate, get_or, nat_lt, arith, refl, sym, ◌∙◌, ap, inl, inr}
use Rattle.std.specs.Int.{bit_at}
use Rattle.std.specs.List.{range_with_len}
use Rattle.std.specs.Str.{bytes_eq}
use Rattle.std.proofs.lemmas.Bool.{cases_eq, cases_lt, cases_Bool, eq-eqb}
use Rattle.std.proofs.lemmas.Bool.Decides.{nat_tests}
use Rattle.std.proofs.lemmas.Grind.{same_number_lists}
use Rattle.std.proofs.lemmas.List.FromFn.{take-map-range_with_len, fill_by_all}
use Rattle.std.proofs.Math.Nat.{zero-div, div-div-eq-div-mul}
use Rattle.std.proofs.lemmas.Nat.{pow-add}
use Rattle.std.proofs.lemmas.Nat.Bits.{bit_at_cat_low, bit_at_cat_high, bit_at_above}
use Rattle.std.proofs.lemmas.Slice.Eq.{bytes_eq-Decides}
use Rattle.layers.specs.Usages.{has_bit}
use Rattle.reports.specs.declared.Input.{Input}
use Rattle.reports.specs.declared.Input.TheVariants.{Boot, One, Two}
use Rattle.reports.specs.Poll.{size_of, is_report}
use Rattle.reports.specs.Wanted.{byte_of, bytes_of, bitmap_bit, bitmap_bytes, boot_bytes, consumer_bytes}
use Rattle.reports.specs.representation.Words.{byte_at, first_bytes, EndsAt, Packs}
use Rattle.reports.proofs.Bits.{byte_of-bits}
use Rattle.reports.proofs.LayoutTheorems.{length-bytes_of, bytes_of-at}
use Rattle.reports.proofs.Empty.{boot_bytes_none, bitmap_bytes_none, consumer_bytes_none}
use Rattle.reports.proofs.Sizes.{one-length}

-- ---- the bytes of words

length_range : (f : ℕ → ℕ) (a n : ℕ) → length (map f (range_with_len a n)) ≡ n
length_range f a zero = refl
length_range f a (suc n) = ap (λ (m : ℕ). suc m) (length_range f (a + 1) n)

at_range : (f : ℕ → ℕ) (a n k : ℕ) → k < n → get_or (map f (range_with_len a n)) k 0 ≡ f (a + k)
at_range f a zero k l = absurd (omega arith)
at_range f a (suc n) zero l = let z : a + 0 ≡ a = omega arith in rw z refl
at_range f a (suc n) (suc k) l = let e : a + 1 + k ≡ a + suc k = omega arith in rw (← e) (at_range f (a + 1) n k (omega arith))

pub length-first_bytes : (words : List ℕ) (n : ℕ) → length (first_bytes words n) ≡ n
unfolding first_bytes
length-first_bytes words n = length_range (byte_at words) 0 n

pub first_bytes-at : (words : List ℕ) (n k : ℕ) → k < n → get_or (first_bytes words n) k 0 ≡ byte_at words k
unfolding first_bytes
first_bytes-at words n k l = at_range (byte_at words) 0 n k l ∙ (let z : 0 + k ≡ k = omega arith in rw z refl)

-- ---- two reports are the same where their words are

same_word : (a b : ℕ) → a < 2 ^ 32 → b < 2 ^ 32 → a / 2 ^ 0 % 256 ≡ b / 2 ^ 0 % 256 → a / 2 ^ 8 % 256 ≡ b / 2 ^ 8 % 256 → a / 2 ^ 16 % 256 ≡ b / 2 ^ 16 % 256 → a / 2 ^ 24 % 256 ≡ b / 2 ^ 24 % 256
    → a ≡ b
same_word a b l m x y z w = omega arith

same_byte : (i j : Input) (ws vs : List ℕ) → EndsAt ws (size_of i) → EndsAt vs (size_of j) → first_bytes ws (size_of i) ≡ first_bytes vs (size_of j) → (k : ℕ) → k < 24 → byte_at ws k ≡ byte_at vs k
same_byte i j ws vs p q e k l =
    let n : size_of i ≡ size_of j = sym (length-first_bytes ws (size_of i)) ∙ ap (λ (xs : List ℕ). length xs) e ∙ length-first_bytes vs (size_of j) in
    elim (cases_lt k (size_of i)) [
      | inl m ↦ sym (first_bytes-at ws (size_of i) k m) ∙ ap (λ (xs : List ℕ). get_or xs k 0) e ∙ first_bytes-at vs (size_of j) k (omega (arith, n))
      | inr m ↦ p.zeros k m l ∙ sym (q.zeros k (omega (arith, n)) l)
    ]

pub record SameWords (ws vs : List ℕ) : Type 0 where
  pub w0 : get_or ws 0 0 ≡ get_or vs 0 0
  pub w1 : get_or ws 1 0 ≡ get_or vs 1 0
  pub w2 : get_or ws 2 0 ≡ get_or vs 2 0
  pub w3 : get_or ws 3 0 ≡ get_or vs 3 0
  pub w4 : get_or ws 4 0 ≡ get_or vs 4 0
  pub w5 : get_or ws 5 0 ≡ get_or vs 5 0

six_at : (xs : List ℕ) → length xs ≡ 6 → xs ≡ get_or xs 0 0 ∷ get_or xs 1 0 ∷ get_or xs 2 0 ∷ get_or xs 3 0 ∷ get_or xs 4 0 ∷ get_or xs 5 0 ∷ []
six_at (a ∷ b ∷ c ∷ d ∷ e ∷ f ∷ []) l = refl
six_at [] l = absurd (omega (arith, l))
six_at (a ∷ []) l = absurd (omega (arith, l))
six_at (a ∷ b ∷ []) l = absurd (omega (arith, l))
six_at (a ∷ b ∷ c ∷ []) l = absurd (omega (arith, l))
six_at (a ∷ b ∷ c ∷ d ∷ []) l = absurd (omega (arith, l))
six_at (a ∷ b ∷ c ∷ d ∷ e ∷ []) l = absurd (omega (arith, l))
six_at (a ∷ b ∷ c ∷ d ∷ e ∷ f ∷ g ∷ xs) l = absurd (omega (arith, l))

all_same : (ws vs : List ℕ) → length ws ≡ 6 → length vs ≡ 6 → SameWords ws vs → ws ≡ vs
all_same ws vs l m s = six_at ws l ∙ rw (s.w0, s.w1, s.w2, s.w3, s.w4, s.w5) refl ∙ sym (six_at vs m)

-- ---- words from bytes

nothing : (x : ℕ) → 0 / x % 256 ≡ 0
nothing x = rw (zero-div x) refl

none_at : (n i : ℕ) → get_or {A = ℕ} (replicate n 0) i 0 ≡ 0
none_at zero i = refl
none_at (suc n) zero = refl
none_at (suc n) (suc i) = none_at n i

past_two : (a b k : ℕ) → 2 ≤ k → get_or (a ∷ b ∷ replicate 4 0) k 0 ≡ 0
past_two a b zero l = absurd (omega arith)
past_two a b (suc zero) l = absurd (omega arith)
past_two a b (suc (suc k)) l = none_at 4 k

pub ends_at_eight : (a b : ℕ) → EndsAt (a ∷ b ∷ 0 ∷ 0 ∷ 0 ∷ 0 ∷ []) 8
ends_at_eight a b = record { six = refl; zeros = λ k l m. rw (past_two a b (k / 4) (omega arith)) (nothing (2 ^ (8 * (k % 4)))) }

past_three : (a b c k : ℕ) → 3 ≤ k → get_or (a ∷ b ∷ c ∷ replicate 3 0) k 0 ≡ 0
past_three a b c zero l = absurd (omega arith)
past_three a b c (suc zero) l = absurd (omega arith)
past_three a b c (suc (suc zero)) l = absurd (omega arith)
past_three a b c (suc (suc (suc k))) l = none_at 3 k

pub ends_at_nine : (a b c i : ℕ) → Packs c i 0 0 0 → EndsAt (a ∷ b ∷ c ∷ 0 ∷ 0 ∷ 0 ∷ []) 9
ends_at_nine a b c i p =
    let ws : List ℕ = a ∷ b ∷ c ∷ 0 ∷ 0 ∷ 0 ∷ [] in
    record {
      six = refl;
      zeros = λ k l m. elim (cases_lt k 12) [
        | inl low ↦ elim (cases_eq k 9) [
          | inl e ↦ (let z : byte_at ws 9 ≡ 0 = p.p1 in rw e z)
          | inr n ↦ elim (cases_eq k 10) [
            | inl e ↦ (let z : byte_at ws 10 ≡ 0 = p.p2 in rw e z)
            | inr o ↦ (let e : k ≡ 11 = omega arith in let z : byte_at ws 11 ≡ 0 = p.p3 in rw e z)
          ]
        ]
        | inr high ↦ rw (past_three a b c (k / 4) (omega arith)) (nothing (2 ^ (8 * (k % 4))))
      ];
    }

pub ends_at_23 : (a b c d e f : ℕ) → f < 2 ^ 24 → EndsAt (a ∷ b ∷ c ∷ d ∷ e ∷ f ∷ []) 23
ends_at_23 a b c d e f fits =
    let ws : List ℕ = a ∷ b ∷ c ∷ d ∷ e ∷ f ∷ [] in
    record {
      six = refl;
      zeros = λ k l m. (let at : k ≡ 23 = omega arith in let z : byte_at ws 23 ≡ 0 = omega arith in rw at z);
    }

eight_each : (xs : List ℕ) (k : ℕ) → k < 8 → get_or xs k 0 ≡ get_or (get_or xs 0 0 ∷ get_or xs 1 0 ∷ get_or xs 2 0 ∷ get_or xs 3 0 ∷ get_or xs 4 0 ∷ get_or xs 5 0 ∷ get_or xs 6 0 ∷ get_or xs 7 0 ∷ []) k 0
eight_each xs zero l = refl
eight_each xs (suc zero) l = refl
eight_each xs (suc (suc zero)) l = refl
eight_each xs (suc (suc (suc zero))) l = refl
eight_each xs (suc (suc (suc (suc zero)))) l = refl
eight_each xs (suc (suc (suc (suc (suc zero))))) l = refl
eight_each xs (suc (suc (suc (suc (suc (suc zero)))))) l = refl
eight_each xs (suc (suc (suc (suc (suc (suc (suc zero))))))) l = refl
eight_each xs (suc (suc (suc (suc (suc (suc (suc (suc k)))))))) l = absurd (omega arith)

pub eight_at : (xs : List ℕ) → length xs ≡ 8
    → xs ≡ get_or xs 0 0 ∷ get_or xs 1 0 ∷ get_or xs 2 0 ∷ get_or xs 3 0 ∷ get_or xs 4 0 ∷ get_or xs 5 0 ∷ get_or xs 6 0 ∷ get_or xs 7 0 ∷ []
eight_at xs l = same_number_lists xs (get_or xs 0 0 ∷ get_or xs 1 0 ∷ get_or xs 2 0 ∷ get_or xs 3 0 ∷ get_or xs 4 0 ∷ get_or xs 5 0 ∷ get_or xs 6 0 ∷ get_or xs 7 0 ∷ []) l
    (λ k m. eight_each xs k (omega (arith, l)))

pub from_eight : (xs : List ℕ) (v w : ℕ) → length xs ≡ 8 → Packs v (get_or xs 0 0) (get_or xs 1 0) (get_or xs 2 0) (get_or xs 3 0)
    → Packs w (get_or xs 4 0) (get_or xs 5 0) (get_or xs 6 0) (get_or xs 7 0) → first_bytes (v ∷ w ∷ 0 ∷ 0 ∷ 0 ∷ 0 ∷ []) 8 ≡ xs
unfolding first_bytes
from_eight xs v w l p q = rw (p.p0, p.p1, p.p2, p.p3, q.p0, q.p1, q.p2, q.p3) (sym (eight_at xs l))

pub nine_at : (xs : List ℕ) → length xs ≡ 9
    → xs ≡ get_or xs 0 0 ∷ get_or xs 1 0 ∷ get_or xs 2 0 ∷ get_or xs 3 0 ∷ get_or xs 4 0 ∷ get_or xs 5 0 ∷ get_or xs 6 0 ∷ get_or xs 7 0 ∷ get_or xs 8 0 ∷ []
nine_at [] l = absurd (omega (arith, l))
nine_at (x ∷ xs) l = ap (λ (ys : List ℕ). x ∷ ys) (eight_at xs (omega (arith, l)))

pub from_nine : (xs : List ℕ) (v w x : ℕ) → length xs ≡ 9 → Packs v (get_or xs 0 0) (get_or xs 1 0) (get_or xs 2 0) (get_or xs 3 0)
    → Packs w (get_or xs 4 0) (get_or xs 5 0) (get_or xs 6 0) (get_or xs 7 0) → Packs x (get_or xs 8 0) 0 0 0 → first_bytes (v ∷ w ∷ x ∷ 0 ∷ 0 ∷ 0 ∷ []) 9 ≡ xs
unfolding first_bytes
from_nine xs v w x l p q r = rw (p.p0, p.p1, p.p2, p.p3, q.p0, q.p1, q.p2, q.p3, r.p0) (sym (nine_at xs l))

-- bytes from a place on, as a word
abbrev pub PacksAt : List ℕ → ℕ → ℕ → Type 0
PacksAt xs i w = Packs w (get_or xs i 0) (get_or xs (i + 1) 0) (get_or xs (i + 2) 0) (get_or xs (i + 3) 0)

six_each : (xs : List ℕ) (a b c d e f : ℕ) → PacksAt xs 0 a → PacksAt xs 4 b → PacksAt xs 8 c → PacksAt xs 12 d → PacksAt xs 16 e → PacksAt xs 20 f
    → (k : ℕ) → k < 24 → byte_at (a ∷ b ∷ c ∷ d ∷ e ∷ f ∷ []) k ≡ get_or xs k 0
six_each xs a b c d e f p q r s t u zero l = p.p0
six_each xs a b c d e f p q r s t u (suc zero) l = p.p1
six_each xs a b c d e f p q r s t u (suc (suc zero)) l = p.p2
six_each xs a b c d e f p q r s t u (suc (suc (suc zero))) l = p.p3
six_each xs a b c d e f p q r s t u (suc (suc (suc (suc zero)))) l = q.p0
six_each xs a b c d e f p q r s t u (suc (suc (suc (suc (suc zero))))) l = q.p1
six_each xs a b c d e f p q r s t u (suc (suc (suc (suc (suc (suc zero)))))) l = q.p2
six_each xs a b c d e f p q r s t u (suc (suc (suc (suc (suc (suc (suc zero))))))) l = q.p3
six_each xs a b c d e f p q r s t u (suc (suc (suc (suc (suc (suc (suc (suc zero)))))))) l = r.p0
six_each xs a b c d e f p q r s t u (suc (suc (suc (suc (suc (suc (suc (suc (suc zero))))))))) l = r.p1
six_each xs a b c d e f p q r s t u (suc (suc (suc (suc (suc (suc (suc (suc (suc (suc zero)))))))))) l = r.p2
six_each xs a b c d e f p q r s t u (suc (suc (suc (suc (suc (suc (suc (suc (suc (suc (suc zero))))))))))) l = r.p3
six_each xs a b c d e f p q r s t u (suc (suc (suc (suc (suc (suc (suc (suc (suc (suc (suc (suc zero)))))))))))) l = s.p0
six_each xs a b c d e f p q r s t u (suc (suc (suc (suc (suc (suc (suc (suc (suc (suc (suc (suc (suc zero))))))))))))) l = s.p1
six_each xs a b c d e f p q r s t u (suc (suc (suc (suc (suc (suc (suc (suc (suc (suc (suc (suc (suc (suc zero)))))))))))))) l = s.p2
six_each xs a b c d e f p q r s t u (suc (suc (suc (suc (suc (suc (suc (suc (suc (suc (suc (suc (suc (suc (suc zero))))))))))))))) l = s.p3
six_each xs a b c d e f p q r s t u (suc (suc (suc (suc (suc (suc (suc (suc (suc (suc (suc (suc (suc (suc (suc (suc zero)))))))))))))))) l = t.p0
six_each xs a b c d e f p q r s t u (suc (suc (suc (suc (suc (suc (suc (suc (suc (suc (suc (suc (suc (suc (suc (suc (suc zero))))))))))))))))) l = t.p1
six_each xs a b c d e f p q r s t u (suc (suc (suc (suc (suc (suc (suc (suc (suc (suc (suc (suc (suc (suc (suc (suc (suc (suc zero)))))))))))))))))) l = t.p2
six_each xs a b c d e f p q r s t u (suc (suc (suc (suc (suc (suc (suc (suc (suc (suc (suc (suc (suc (suc (suc (suc (suc (suc (suc zero))))))))))))))))))) l = t.p3
six_each xs a b c d e f p q r s t u (suc (suc (suc (suc (suc (suc (suc (suc (suc (suc (suc (suc (suc (suc (suc (suc (suc (suc (suc (suc zero)))))))))))))))))))) l = u.p0
six_each xs a b c d e f p q r s t u (suc (suc (suc (suc (suc (suc (suc (suc (suc (suc (suc (suc (suc (suc (suc (suc (suc (suc (suc (suc (suc zero))))))))))))))))))))) l = u.p1
six_each xs a b c d e f p q r s t u (suc (suc (suc (suc (suc (suc (suc (suc (suc (suc (suc (suc (suc (suc (suc (suc (suc (suc (suc (suc (suc (suc zero)))))))))))))))))))))) l = u.p2
six_each xs a b c d e f p q r s t u (suc (suc (suc (suc (suc (suc (suc (suc (suc (suc (suc (suc (suc (suc (suc (suc (suc (suc (suc (suc (suc (suc (suc zero))))))))))))))))))))))) l = u.p3
six_each xs a b c d e f p q r s t u (suc (suc (suc (suc (suc (suc (suc (suc (suc (suc (suc (suc (suc (suc (suc (suc (suc (suc (suc (suc (suc (suc (suc (suc k)))))))))))))))))))))))) l = absurd (omega arith)

pub from_six : (xs : List ℕ) (a b c d e f : ℕ) → length xs ≤ 24 → PacksAt xs 0 a → PacksAt xs 4 b → PacksAt xs 8 c → PacksAt xs 12 d → PacksAt xs 16 e → PacksAt xs 20 f
    → first_bytes (a ∷ b ∷ c ∷ d ∷ e ∷ f ∷ []) (length xs) ≡ xs
from_six xs a b c d e f fits p q r s t u =
    let ws : List ℕ = a ∷ b ∷ c ∷ d ∷ e ∷ f ∷ [] in
    same_number_lists (first_bytes ws (length xs)) xs (length-first_bytes ws (length xs))
    (λ k m. let l : k < length xs = omega (arith, m, length-first_bytes ws (length xs)) in
    first_bytes-at ws (length xs) k l ∙ six_each xs a b c d e f p q r s t u k (omega arith))

-- ---- the words of the bitmap

abbrev across : ℕ → ℕ → ℕ
across low high = low / 1048576 + 4096 * (high % 1048576)

bit_at_shr : (n k i : ℕ) → bit_at (n / 2 ^ k) i ≡ bit_at n (k + i)
bit_at_shr n k i = rw (div-div-eq-div-mul n (2 ^ k) (2 ^ i), ← pow-add 2 k i) refl

whole : (n m : ℕ) → n / m * m + n % m ≡ n
whole n m = omega arith

low_bits : (n k i : ℕ) → i < k → bit_at (n % 2 ^ k) i ≡ bit_at n i
low_bits n k i l =
    sym (bit_at_cat_low (n / 2 ^ k) k (n % 2 ^ k) i l) ∙ ap (λ (m : ℕ). bit_at m i) (whole n (2 ^ k))

byte_bit : (word j i : ℕ) → i < 8 → bit_at (word / 2 ^ (8 * j) % 256) i ≡ bit_at word (8 * j + i)
byte_bit word j i l = low_bits (word / 2 ^ (8 * j)) 8 i l ∙ bit_at_shr word (8 * j) i

across_low : (low high i : ℕ) → i < 12 → bit_at (across low high) i ≡ bit_at low (20 + i)
across_low low high i l =
    let e : across low high ≡ high % 1048576 * 2 ^ 12 + low / 2 ^ 20 = omega arith in
    ap (λ (m : ℕ). bit_at m i) e ∙ bit_at_cat_low (high % 1048576) 12 (low / 2 ^ 20) i l ∙ bit_at_shr low 20 i

across_high : (low high i : ℕ) → low < 2 ^ 32 → 12 ≤ i → i < 32 → bit_at (across low high) i ≡ bit_at high (i - 12)
across_high low high i fits l m =
    let e : across low high ≡ high % 1048576 * 2 ^ 12 + low / 2 ^ 20 = omega arith in
    ap (λ (n : ℕ). bit_at n i) e ∙ bit_at_cat_high (high % 1048576) 12 (low / 2 ^ 20) i (omega arith) l ∙ low_bits high 20 (i - 12) (omega arith)

-- bit i of a further word is the usage twelve before it
across_test : (keys : List ℕ) (p i : ℕ) → get_or keys p 0 < 2 ^ 32 → i < 32 → (bit_at (across (get_or keys p 0) (get_or keys (p + 1) 0)) i == 1) ≡ has_bit 32 keys (32 * (p + 1) + i - 12)
across_test keys p i fits l = elim (cases_lt i 12) [
  | inl low ↦
      let q : (32 * (p + 1) + i - 12) / 32 ≡ p = omega arith in
      let r : (32 * (p + 1) + i - 12) % 32 ≡ 20 + i = omega arith in
      rw (q, r, across_low (get_or keys p 0) (get_or keys (p + 1) 0) i low) refl
  | inr high ↦
      let q : (32 * (p + 1) + i - 12) / 32 ≡ p + 1 = omega arith in
      let r : (32 * (p + 1) + i - 12) % 32 ≡ i - 12 = omega arith in
      rw (q, r, across_high (get_or keys p 0) (get_or keys (p + 1) 0) i fits high l) refl
]

abbrev first : ℕ → ℕ → ℕ
first modifiers low = 1 + 256 * modifiers + 65536 * (low / 16 % 65536)

first_test : (keys : List ℕ) (modifiers i : ℕ) → modifiers < 256 → 16 ≤ i → i < 32 → (bit_at (first modifiers (get_or keys 0 0)) i == 1) ≡ has_bit 32 keys (i - 12)
first_test keys modifiers i fits l m =
    let low = get_or keys 0 0 in
    let e : first modifiers low ≡ low / 16 % 65536 * 2 ^ 16 + (1 + 256 * modifiers) = omega arith in
    let q : (i - 12) / 32 ≡ 0 = omega arith in
    let r : (i - 12) % 32 ≡ i - 12 = omega arith in
    let b : bit_at (first modifiers low) i ≡ bit_at low (4 + (i - 16)) =
    ap (λ (n : ℕ). bit_at n i) e ∙ bit_at_cat_high (low / 16 % 65536) 16 (1 + 256 * modifiers) i (omega arith) l
    ∙ low_bits (low / 16) 16 (i - 16) (omega arith) ∙ bit_at_shr low 4 (i - 16) in
    let at : 4 + (i - 16) ≡ i - 12 = omega arith in
    rw (q, r, b, at) refl

-- the first six words of a set, of the last of which only the five low bits count
abbrev cut : List ℕ → List ℕ
cut keys = get_or keys 0 0 ∷ get_or keys 1 0 ∷ get_or keys 2 0 ∷ get_or keys 3 0 ∷ get_or keys 4 0 ∷ get_or keys 5 0 % 32 ∷ []

-- a set whose words from the sixth on are left out but for the usages below A5h
pub record IsCut (keys words : List ℕ) : Type 0 where
  pub below : (p : ℕ) → p < 5 → get_or words p 0 ≡ get_or keys p 0
  pub last : get_or words 5 0 ≡ get_or keys 5 0 % 32

cut_test : (keys words : List ℕ) (u : ℕ) → IsCut keys words → u < 192 → has_bit 32 words u ≡ (nat_lt u 165 && has_bit 32 keys u)
cut_test keys words u s l = elim (cases_lt u 160) [
  | inl m ↦
      let t : nat_lt u 165 ≡ true = grind (arith, nat_tests) in
      rw (t, s.below (u / 32) (omega arith)) refl
  | inr m ↦
      let q : u / 32 ≡ 5 = omega arith in
      elim (cases_lt u 165) [
        | inl n ↦
            let t : nat_lt u 165 ≡ true = grind (arith, nat_tests) in
            rw (t, q, s.last, low_bits (get_or keys 5 0) 5 (u % 32) (omega arith)) refl
        | inr n ↦
            let t : nat_lt u 165 ≡ false = grind (arith, nat_tests) in
            let z : bit_at (get_or keys 5 0 % 32) (u % 32) ≡ 0 = bit_at_above (get_or keys 5 0 % 32) 5 (u % 32) (omega arith) (omega arith) in
            rw (t, q, s.last, z) refl
      ]
]

-- a bit of the report is a usage
bit_of_report : (keys words : List ℕ) (test : ℕ → Bool) (b : ℕ) → IsCut keys words → ((u : ℕ) → has_bit 32 keys u ≡ test u) → 8 ≤ b → b < 176 → has_bit 32 words (b - 4) ≡ bitmap_bit test b
bit_of_report keys words test b s is l m =
    let low : nat_lt b 8 ≡ false = grind (arith, nat_tests) in
    let at : b - 8 + 4 ≡ b - 4 = omega arith in
    cut_test keys words (b - 4) s (omega arith) ∙ elim (cases_lt b 169) [
      | inl n ↦
          let t : nat_lt (b - 4) 165 ≡ true = grind (arith, nat_tests) in
          let v : nat_lt b 169 ≡ true = grind (arith, nat_tests) in
          rw (t, low, v, at, is (b - 4)) refl
      | inr n ↦
          let t : nat_lt (b - 4) 165 ≡ false = grind (arith, nat_tests) in
          let v : nat_lt b 169 ≡ false = grind (arith, nat_tests) in
          rw (t, low, v) refl
    ]

-- the words of the report of ID 1: the first has the modifiers, each further one lies across two words of usages
pub record IsBitmap (words report : List ℕ) (modifiers : ℕ) : Type 0 where
  pub first_is : get_or report 0 0 ≡ first modifiers (get_or words 0 0)
  pub next_is : (p : ℕ) → p < 5 → get_or report (p + 1) 0 ≡ across (get_or words p 0) (get_or words (p + 1) 0)
  pub fits : (p : ℕ) → p < 5 → get_or words p 0 < 2 ^ 32

report_bit : (words report : List ℕ) (modifiers k i : ℕ) → IsBitmap words report modifiers → modifiers < 256 → 2 ≤ k → k < 23 → i < 8
    → (bit_at (byte_at report k) i == 1) ≡ has_bit 32 words (8 * k + i - 12)
report_bit words report modifiers k i r fits l m n =
    let place = 8 * (k % 4) + i in
    rw (byte_bit (get_or report (k / 4) 0) (k % 4) i n)
    (elim (cases_lt k 4) [
      | inl low ↦
          let z : k / 4 ≡ 0 = omega arith in
          let at : 8 * k + i - 12 ≡ place - 12 = omega arith in
          rw (z, r.first_is, at) (first_test words modifiers place fits (omega arith) (omega arith))
      | inr high ↦
          let p = k / 4 - 1 in
          let q : k / 4 ≡ p + 1 = omega arith in
          let at : 8 * k + i - 12 ≡ 32 * (p + 1) + place - 12 = omega arith in
          rw (q, r.next_is p (omega arith), at) (across_test words p place (r.fits p (omega arith)) (omega arith))
    ])

map_byte_is : (keys words report : List ℕ) (test : ℕ → Bool) (modifiers k : ℕ) → IsCut keys words → IsBitmap words report modifiers → modifiers < 256
    → ((u : ℕ) → has_bit 32 keys u ≡ test u) → 2 ≤ k + 1 → k + 1 < 23 → byte_at report (k + 1) ≡ byte_of (λ i. bitmap_bit test (8 * k + i))
map_byte_is keys words report test modifiers k s r fits is l m =
    byte_of-bits (byte_at report (k + 1)) (λ i. bitmap_bit test (8 * k + i)) (omega arith) (λ i n.
    let at : 8 * (k + 1) + i - 12 ≡ 8 * k + i - 4 = omega arith in
    report_bit words report modifiers (k + 1) i r fits l m n ∙ rw at (bit_of_report keys words test (8 * k + i) s is (omega arith) (omega arith)))

modifier_bits : (test : ℕ → Bool) (modifiers i : ℕ) → ((i : ℕ) → i < 8 → (bit_at modifiers i == 1) ≡ test (224 + i)) → i < 8 → (bit_at modifiers i == 1) ≡ bitmap_bit test (8 * 0 + i)
modifier_bits test modifiers i bits l =
    let e : 8 * 0 + i ≡ i = omega arith in
    let a : nat_lt i 8 ≡ true = grind (arith, nat_tests) in
    rw e (rw a (bits i l))

report_at : (keys words report : List ℕ) (test : ℕ → Bool) (modifiers k : ℕ) → IsCut keys words → IsBitmap words report modifiers → modifiers < 256
    → ((u : ℕ) → has_bit 32 keys u ≡ test u) → ((i : ℕ) → i < 8 → (bit_at modifiers i == 1) ≡ test (224 + i)) → k < 23
    → byte_at report k ≡ get_or (1 ∷ bytes_of (bitmap_bit test) 22) k 0
report_at keys words report test modifiers zero s r fits is bits l = rw r.first_is (omega arith)
report_at keys words report test modifiers (suc zero) s r fits is bits l =
    let m : byte_at report 1 ≡ modifiers = rw r.first_is (omega arith) in
    m ∙ byte_of-bits modifiers (λ i. bitmap_bit test (8 * 0 + i)) fits (λ i n. modifier_bits test modifiers i bits n) ∙ sym (bytes_of-at (bitmap_bit test) 22 0 (omega arith))
report_at keys words report test modifiers (suc (suc k)) s r fits is bits l =
    let e : suc k + 1 ≡ suc (suc k) = omega arith in
    ap (λ (n : ℕ). byte_at report n) (sym e) ∙ map_byte_is keys words report test modifiers (suc k) s r fits is (omega arith) (omega arith) ∙ sym (bytes_of-at (bitmap_bit test) 22 (suc k) (omega arith))

below_five : (P : ℕ → Type 0) → P 0 → P 1 → P 2 → P 3 → P 4 → (p : ℕ) → p < 5 → P p
below_five P a b c d e zero l = a
below_five P a b c d e (suc zero) l = b
below_five P a b c d e (suc (suc zero)) l = c
below_five P a b c d e (suc (suc (suc zero))) l = d
below_five P a b c d e (suc (suc (suc (suc zero)))) l = e
below_five P a b c d e (suc (suc (suc (suc (suc p))))) l = absurd (omega arith)

pub cut_is : (keys : List ℕ) → IsCut keys (cut keys)
cut_is keys = record { below = below_five (λ p. get_or (cut keys) p 0 ≡ get_or keys p 0) refl refl refl refl refl; last = refl }

pub bitmap_words : (keys : List ℕ) (modifiers a b c d e f : ℕ) → a ≡ first modifiers (get_or keys 0 0) → b ≡ across (get_or keys 0 0) (get_or keys 1 0)
    → c ≡ across (get_or keys 1 0) (get_or keys 2 0) → d ≡ across (get_or keys 2 0) (get_or keys 3 0) → e ≡ across (get_or keys 3 0) (get_or keys 4 0)
    → f ≡ across (get_or keys 4 0) (get_or keys 5 0 % 32)
    → get_or keys 0 0 < 2 ^ 32 → get_or keys 1 0 < 2 ^ 32 → get_or keys 2 0 < 2 ^ 32 → get_or keys 3 0 < 2 ^ 32 → get_or keys 4 0 < 2 ^ 32
    → IsBitmap (cut keys) (a ∷ b ∷ c ∷ d ∷ e ∷ f ∷ []) modifiers
bitmap_words keys modifiers a b c d e f fa fb fc fd fe ff l0 l1 l2 l3 l4 = record {
  first_is = fa;
  next_is = below_five (λ p. get_or (a ∷ b ∷ c ∷ d ∷ e ∷ f ∷ []) (p + 1) 0 ≡ across (get_or (cut keys) p 0) (get_or (cut keys) (p + 1) 0)) fb fc fd fe ff;
  fits = below_five (λ p. get_or (cut keys) p 0 < 2 ^ 32) l0 l1 l2 l3 l4;
}

pub bitmap_is : (keys report : List ℕ) (test : ℕ → Bool) (modifiers : ℕ) → IsCut keys (cut keys) → IsBitmap (cut keys) report modifiers → modifiers < 256
    → ((u : ℕ) → has_bit 32 keys u ≡ test u) → ((i : ℕ) → i < 8 → (bit_at modifiers i == 1) ≡ test (224 + i)) → first_bytes report 23 ≡ bitmap_bytes test
unfolding bitmap_bytes
bitmap_is keys report test modifiers s r fits is bits =
    same_number_lists (first_bytes report 23) (1 ∷ bytes_of (bitmap_bit test) 22) (omega (arith, length-first_bytes report 23, length-bytes_of (bitmap_bit test) 22))
    (λ k l. let m : k < 23 = omega (arith, length-first_bytes report 23) in
    first_bytes-at report 23 k m ∙ report_at keys (cut keys) report test modifiers k s r fits is bits m)

-- ---- parts of the bytes

pub is_report-first : (words : List ℕ) (input : Input) → is_report input (first_bytes words (size_of input)) ≡ true
is_report-first words input = eq-eqb (length (first_bytes words (size_of input))) (size_of input) (length-first_bytes words (size_of input))

take_eight : (words : List ℕ) → take 8 (first_bytes words 24) ≡ first_bytes words 8
unfolding first_bytes
take_eight words = refl

take_nine : (words : List ℕ) → take 9 (first_bytes words 24) ≡ first_bytes words 9
unfolding first_bytes
take_nine words = refl

take_23 : (words : List ℕ) → take 23 (first_bytes words 24) ≡ first_bytes words 23
unfolding first_bytes
take_23 words = refl

pub take_first : (input : Input) (words : List ℕ) → take (length (first_bytes words (size_of input))) (first_bytes words 24) ≡ first_bytes words (size_of input)
take_first Boot words = rw (length-first_bytes words 8) (take_eight words)
take_first One words = rw (length-first_bytes words 23) (take_23 words)
take_first Two words = rw (length-first_bytes words 9) (take_nine words)

pub unused_boot : first_bytes (replicate 6 0) 8 ≡ boot_bytes (λ _. false)
unfolding first_bytes
unused_boot = sym boot_bytes_none

pub unused_one : first_bytes (1 ∷ replicate 5 0) 23 ≡ bitmap_bytes (λ _. false)
unfolding first_bytes
unused_one = sym bitmap_bytes_none

pub unused_two : first_bytes (2 ∷ replicate 5 0) 9 ≡ consumer_bytes (λ _. false)
unfolding first_bytes
unused_two = sym consumer_bytes_none

byte_in : (ws : List ℕ) (p j : ℕ) → j < 4 → byte_at ws (4 * p + j) ≡ get_or ws p 0 / 2 ^ (8 * j) % 256
byte_in ws p j l =
    let q : (4 * p + j) / 4 ≡ p = omega arith in
    let r : (4 * p + j) % 4 ≡ j = omega arith in
    rw (q, r) refl

-- two reports differ where a word does
pub differ : (i j : Input) (ws vs : List ℕ) (p : ℕ) → EndsAt ws (size_of i) → EndsAt vs (size_of j) → p < 6 → get_or ws p 0 < 2 ^ 32 → get_or vs p 0 < 2 ^ 32 → (get_or ws p 0 ≡ get_or vs p 0 → ⊥)
    → false ≡ bytes_eq (first_bytes ws (size_of i)) (first_bytes vs (size_of j))
differ i j ws vs p x y l f g n = elim (cases_Bool (bytes_eq (first_bytes ws (size_of i)) (first_bytes vs (size_of j)))) [
  | inl t ↦
      let e = (bytes_eq-Decides (first_bytes ws (size_of i)) (first_bytes vs (size_of j))).0 t in
      let byte = same_byte i j ws vs x y e in
      let each : (k : ℕ) → k < 4 → get_or ws p 0 / 2 ^ (8 * k) % 256 ≡ get_or vs p 0 / 2 ^ (8 * k) % 256 =
      λ k m. sym (byte_in ws p k m) ∙ byte (4 * p + k) (omega arith) ∙ byte_in vs p k m in
      absurd (n (same_word (get_or ws p 0) (get_or vs p 0) f g (each 0 (omega arith)) (each 1 (omega arith)) (each 2 (omega arith)) (each 3 (omega arith))))
  | inr d ↦ sym d
]

-- where their words are the same, the kind decides
pub kind_decides : (i j : Input) (ws vs : List ℕ) (b : Bool) → EndsAt ws (size_of i) → EndsAt vs (size_of j) → SameWords ws vs → (b ≡ true → i ≡ j) → (i ≡ j → b ≡ true)
    → b ≡ bytes_eq (first_bytes ws (size_of i)) (first_bytes vs (size_of j))
kind_decides i j ws vs b p q s to from =
    let xs = first_bytes ws (size_of i) in
    let ys = first_bytes vs (size_of j) in
    elim (cases_Bool b) [
      | inl t ↦
          let e : xs ≡ ys = rw (all_same ws vs p.six q.six s, to t) refl in
          rw (t, (bytes_eq-Decides xs ys).1 e) refl
      | inr n ↦ elim (cases_Bool (bytes_eq xs ys)) [
        | inl y ↦
            let e : xs ≡ ys = (bytes_eq-Decides xs ys).0 y in
            let size : size_of i ≡ size_of j = sym (length-first_bytes ws (size_of i)) ∙ ap (λ (zs : List ℕ). length zs) e ∙ length-first_bytes vs (size_of j) in
            rw (from (one-length i j size), y) refl
        | inr d ↦ rw (n, d) refl
      ]
    ]

-- ---- how many bytes there are

pub bitmap_size : (test : ℕ → Bool) → length (bitmap_bytes test) ≡ 23
unfolding bitmap_bytes
bitmap_size test = omega (arith, length-bytes_of (bitmap_bit test) 22)

-- ---- the first 23 of 24 bytes

size_most : (input : Input) → size_of input ≤ 23
size_most Boot = omega arith
size_most One = omega arith
size_most Two = omega arith

pub first_23 : (xs : List ℕ) (input : Input) (words : List ℕ) → length xs ≡ 24
    → take (length (first_bytes words (size_of input))) (map (λ (i : ℕ). get_or xs i 0) (range_with_len 0 23)) ≡ take (length (first_bytes words (size_of input))) xs
first_23 xs input words long =
    let f : ℕ → ℕ = λ i. get_or xs i 0 in
    let n = length (first_bytes words (size_of input)) in
    let few : n ≤ 23 = omega (arith, length-first_bytes words (size_of input), size_most input) in
    take-map-range_with_len f 0 23 n few ∙ sym (ap (λ (ys : List ℕ). take n ys) (fill_by_all f xs 24 0 long (λ k l. refl)) ∙ take-map-range_with_len f 0 24 n (omega arith))
