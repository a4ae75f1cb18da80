-- The members of a set, one next to another.
use Rattle.std.proofs.Common.{◌≡◌, ◌+◌, ◌-◌, ◌*◌, ◌/◌, ◌%◌, ◌<◌, ◌≤◌, ℕ, zero, suc, Bool, true, false, List, [], ◌∷◌, ◌++◌, length, replicate, take, arith, refl, sym, ◌∙◌, ap, inl, inr, append_assoc, length-append, append-nil}
use Rattle.std.proofs.Math.ListN.{set}
use Rattle.std.proofs.Math.Seq.{set-append_seam}
use Rattle.std.proofs.lemmas.Bool.{cases_eq, cases_Bool}
use Rattle.std.proofs.lemmas.List.{take-append-le, take_all}
use Rattle.reports.specs.representation.Next.{IsNext, NonePasses}
use Rattle.reports.specs.Wanted.{members, listed, places_of, words_of, consumer_listed, consumer_bytes}
use Rattle.reports.proofs.Members.{length-members-mono, le_test, gt_test}

one_in : (test : ℕ → Bool) (first n : ℕ) → test (first + n) ≡ true → members test first (suc n) ≡ members test first n ++ (first + n) ∷ []
unfolding members
one_in test first n e = rw e refl

one_out : (test : ℕ → Bool) (first n : ℕ) → test (first + n) ≡ false → members test first (suc n) ≡ members test first n
unfolding members
one_out test first n e = rw e (append-nil (members test first n))

-- numbers that don't pass change nothing
pub members-skip : (test : ℕ → Bool) (first m n : ℕ) → m ≤ n → ((v : ℕ) → first + m ≤ v → v < first + n → test v ≡ false) → members test first n ≡ members test first m
members-skip test first m zero l none = let e : m ≡ 0 = omega arith in rw e refl
members-skip test first m (suc n) l none = elim (cases_eq m (suc n)) [
  | inl e ↦ rw e refl
  | inr d ↦ one_out test first n (none (first + n) (omega arith) (omega arith))
      ∙ members-skip test first m n (omega arith) (λ v a b. none v a (omega arith))
]

pub next-some : (test : ℕ → Bool) (first from last u : ℕ) → first ≤ from → IsNext test from last u
    → members test first (u + 1 - first) ≡ members test first (from - first) ++ u ∷ []
next-some test first from last u l n =
    let after = n.after in
    let e : u + 1 - first ≡ suc (u - first) = omega arith in
    let at : first + (u - first) ≡ u = omega arith in
    let here : test (first + (u - first)) ≡ true = rw at n.is in
    let before : members test first (u - first) ≡ members test first (from - first) =
    members-skip test first (from - first) (u - first) (omega arith) (λ v a b. n.first v (omega arith) (omega arith)) in
    rw e (one_in test first (u - first) here ∙ rw (before, at) refl)

pub next-none : (test : ℕ → Bool) (first from last n : ℕ) → first ≤ from → from ≤ first + n → first + n ≡ last + 1 → NonePasses test from last
    → members test first n ≡ members test first (from - first)
next-none test first from last n l m e none = members-skip test first (from - first) n (omega arith) (λ v a b. none.each v (omega arith) (omega arith))

-- ---- the six places of a boot report

pub record Listed (test : ℕ → Bool) (from place : ℕ) (places : List ℕ) : Type 0 where
  pub low : 4 ≤ from
  pub high : from ≤ 165
  pub count : length (members test 4 (from - 4)) ≡ place
  pub items : places ≡ members test 4 (from - 4) ++ replicate (6 - place) 0

pub listed_none : (test : ℕ → Bool) → Listed test 4 0 (replicate 6 0)
unfolding members
listed_none test = record { low = omega arith; high = omega arith; count = refl; items = refl }

pub listed_more : (test : ℕ → Bool) (from place u : ℕ) (places : List ℕ) → Listed test from place places → place < 6 → IsNext test from 164 u
    → Listed test (u + 1) (place + 1) (set places place u)
listed_more test from place u places p room n =
    let old = members test 4 (from - 4) in
    let more = next-some test 4 from 164 u p.low n in
    let left : 6 - place ≡ suc (6 - (place + 1)) = omega arith in
    record {
      low = omega (arith, p.low, n.after);
      high = omega (arith, n.within);
      count = rw (more, length-append old (u ∷ []), p.count) refl;
      items = rw (more, p.items, left, append_assoc old (u ∷ []) (replicate (6 - (place + 1)) 0), ← p.count)
          (set-append_seam old 0 (replicate (6 - (length old + 1)) 0) u);
    }

pub listed_all : (test : ℕ → Bool) (from place : ℕ) (places : List ℕ) → Listed test from place places → place ≤ 6 → NonePasses test from 164
    → places ≡ places_of (listed test)
listed_all test from place places p fits none =
    let all : listed test ≡ members test 4 (from - 4) = next-none test 4 from 164 161 p.low (omega (arith, p.high)) (omega arith) none in
    let few : length (members test 4 (from - 4)) ≤ 6 = omega (arith, p.count) in
    rw (all, le_test (length (members test 4 (from - 4))) 6 few, p.count) p.items

pub listed_over : (test : ℕ → Bool) (from u : ℕ) (places : List ℕ) → Listed test from 6 places → IsNext test from 164 u → replicate 6 1 ≡ places_of (listed test)
listed_over test from u places p n =
    let seven : 6 < length (listed test) = omega (
      arith,
      p.count,
      ap length (next-some test 4 from 164 u p.low n),
      length-append (members test 4 (from - 4)) (u ∷ []),
      length-members-mono test 4 (u + 1 - 4) 161 (omega (arith, n.within)),
    ) in
    rw (gt_test (length (listed test)) 6 seven) refl

-- ---- the four places of a consumer report

words_of-set : (xs rest : List ℕ) (u low high : ℕ) → low ≡ u % 256 → high ≡ u / 256
    → set (set (words_of (xs ++ 0 ∷ rest)) (2 * length xs) low) (2 * length xs + 1) high ≡ words_of (xs ++ u ∷ rest)
unfolding words_of
words_of-set [] rest u low high e f = rw (e, f) refl
words_of-set (x ∷ xs) rest u low high e f =
    let a : 2 * length (x ∷ xs) ≡ suc (suc (2 * length xs)) = omega arith in
    let b : suc (suc (2 * length xs)) + 1 ≡ suc (suc (2 * length xs + 1)) = omega arith in
    rw a (rw b (ap (λ w. x % 256 ∷ x / 256 ∷ w) (words_of-set xs rest u low high e f)))

pub record Words (test : ℕ → Bool) (from place : ℕ) (bytes : List ℕ) : Type 0 where
  pub low : 1 ≤ from
  pub high : from ≤ 1024
  pub count : length (members test 1 (from - 1)) ≡ place
  pub items : bytes ≡ 2 ∷ words_of (members test 1 (from - 1) ++ replicate (4 - place) 0)

pub words_none : (test : ℕ → Bool) → Words test 1 0 (2 ∷ replicate 8 0)
unfolding members words_of
words_none test = record { low = omega arith; high = omega arith; count = refl; items = refl }

pub words_more : (test : ℕ → Bool) (from place u low high : ℕ) (bytes : List ℕ) → Words test from place bytes → place < 4 → IsNext test from 1023 u
    → low ≡ u % 256 → high ≡ u / 256
    → Words test (u + 1) (place + 1) (set (set bytes (2 * place + 1) low) (2 * place + 2) high)
words_more test from place u low high bytes w room n e f =
    let old = members test 1 (from - 1) in
    let more = next-some test 1 from 1023 u w.low n in
    let left : 4 - place ≡ suc (4 - (place + 1)) = omega arith in
    let first : 2 * place + 1 ≡ suc (2 * place) = omega arith in
    let second : 2 * place + 2 ≡ suc (2 * place + 1) = omega arith in
    record {
      low = omega (arith, w.low, n.after);
      high = omega (arith, n.within);
      count = rw (more, length-append old (u ∷ []), w.count) refl;
      items = rw (more, w.items, left, first, second, append_assoc old (u ∷ []) (replicate (4 - (place + 1)) 0), ← w.count)
          (ap (λ bytes. 2 ∷ bytes) (words_of-set old (replicate (4 - (length old + 1)) 0) u low high e f));
    }

take-few : (xs : List ℕ) (n : ℕ) → length xs ≤ n → take n xs ≡ xs
take-few xs n l = take_all n xs l

pub words_all : (test : ℕ → Bool) (from place : ℕ) (bytes : List ℕ) → Words test from place bytes → place ≤ 4 → NonePasses test from 1023
    → bytes ≡ consumer_bytes test
unfolding consumer_bytes
words_all test from place bytes w fits none =
    let all : consumer_listed test ≡ members test 1 (from - 1) = next-none test 1 from 1023 1023 w.low (omega (arith, w.high)) (omega arith) none in
    let few : take 4 (members test 1 (from - 1)) ≡ members test 1 (from - 1) = take-few (members test 1 (from - 1)) 4 (omega (arith, w.count)) in
    rw (all, few, w.count) w.items

-- the members of a part of a set come first
pub members-more : (test : ℕ → Bool) (first m n : ℕ) → m ≤ n → (rest : List ℕ) × (members test first n ≡ members test first m ++ rest)
members-more test first m zero l = let e : m ≡ 0 = omega arith in rw e ([], sym (append-nil (members test first 0)))
members-more test first m (suc n) l = elim (cases_eq m (suc n)) [
  | inl e ↦ rw e ([], sym (append-nil (members test first (suc n))))
  | inr d ↦ (let (rest, e) = members-more test first m n (omega arith) in elim (cases_Bool (test (first + n))) [
    | inl inside ↦ (rest ++ (first + n) ∷ [], one_in test first n inside ∙ rw e (append_assoc (members test first m) rest ((first + n) ∷ [])))
    | inr out ↦ (rest, one_out test first n out ∙ e)
  ])
]

pub words_full : (test : ℕ → Bool) (from : ℕ) (bytes : List ℕ) → Words test from 4 bytes → bytes ≡ consumer_bytes test
unfolding consumer_bytes
words_full test from bytes w =
    let (rest, e) = members-more test 1 (from - 1) 1023 (omega (arith, w.high)) in
    let four : take 4 (consumer_listed test) ≡ members test 1 (from - 1) =
    rw (e, take-append-le 4 (members test 1 (from - 1)) rest (omega (arith, w.count))) (take-few (members test 1 (from - 1)) 4 (omega (arith, w.count))) in
    rw (four, w.count) w.items
