-- The keys of a scan, the first of them, and the others.
use Rattle.std.proofs.Common.{◌≡◌, ℕ, zero, suc, ◌+◌, ◌*◌, ◌<◌, ◌≤◌, ◌/◌, ◌%◌, ◌^◌, Bool, true, false, List, [], ◌∷◌, length, ◌==◌, get_or, refl, arith, ◌∙◌, sym, ap, inl, inr, bit_and, w32}
use Rattle.std.specs.Int.{bit_at, bit_not, trailing_zeros}
use Rattle.std.specs.List.{filter, range_with_len}
use Rattle.std.proofs.Math.ListN.{set}
use Rattle.std.proofs.lemmas.Bool.{cases_eq}
use Rattle.std.proofs.lemmas.List.{get_or-set_same, get_or-set_other}
use Rattle.std.proofs.lemmas.Nat.Bits.{bit_at-zero, bit_at-trailing_zeros, bit_at_clear_same, bit_at_clear_other}
use Rattle.debounce.specs.declared.Scan.{Scan}
use Rattle.debounce.specs.Scans.{has, set_keys}
use Rattle.debounce.specs.representation.Rows.{rows_of}
use Rattle.debounce.proofs.Fed.{has_word}

filter_none : (p : ℕ → Bool) (a n : ℕ) → ((k : ℕ) → a ≤ k → k < a + n → p k ≡ false) → filter p (range_with_len a n) ≡ []
filter_none p a zero h = refl
filter_none p a (suc n) h = rw (h a (omega arith) (omega arith)) (filter_none p (a + 1) n (λ k l m. h k (omega arith) (omega arith)))

filter_same : (p q : ℕ → Bool) (a n : ℕ) → ((k : ℕ) → a ≤ k → k < a + n → p k ≡ q k) → filter p (range_with_len a n) ≡ filter q (range_with_len a n)
filter_same p q a zero h = refl
filter_same p q a (suc n) h = rw (h a (omega arith) (omega arith), filter_same p q (a + 1) n (λ k l m. h k (omega arith) (omega arith))) refl

-- where p has one number more than q, and it is the least
filter_first : (p q : ℕ → Bool) (a n first : ℕ) → a ≤ first → first < a + n → p first ≡ true → q first ≡ false → ((k : ℕ) → k < first → p k ≡ false)
    → ((k : ℕ) → k < a + n → (k ≡ first → ⊥) → q k ≡ p k) → filter p (range_with_len a n) ≡ first ∷ filter q (range_with_len a n)
filter_first p q a zero first l m on off below same = absurd (omega arith)
filter_first p q a (suc n) first l m on off below same =
    elim (cases_eq a first) [
      | inl e ↦ (
          let pa : p a ≡ true = rw e on in
          let qa : q a ≡ false = rw e off in
          rw (pa, qa, e) (ap (λ (rest : List ℕ). first ∷ rest) (filter_same p q (first + 1) n (λ k x y. sym (same k (omega arith) (λ z. omega arith))))))
      | inr d ↦ (
          let pa : p a ≡ false = below a (omega arith) in
          let qa : q a ≡ false = same a (omega arith) d ∙ pa in
          rw (pa, qa) (filter_first p q (a + 1) n first (omega arith) (omega arith) on off below (λ k x. same k (omega arith))))
    ]

-- the sets of scans with the same keys
pub keys-same : (a b : Scan) → ((key : ℕ) → key < 96 → has a key ≡ has b key) → set_keys a ≡ set_keys b
unfolding set_keys
keys-same a b h = filter_same (has a) (has b) 0 96 (λ k l m. h k (omega arith))

-- whether words have a key
abbrev has_bit : List ℕ → ℕ → Bool
has_bit words key = bit_at (get_or words (key / 32) 0) (key % 32) == 1

-- the keys of words
abbrev keys_of : List ℕ → List ℕ
keys_of words = filter (has_bit words) (range_with_len 0 96)

of_words : (words : List ℕ) → set_keys (record { rows = rows_of words }) ≡ keys_of words
unfolding set_keys
of_words words = filter_same (has (record { rows = rows_of words })) (has_bit words) 0 96 (λ k l m. has_word words k (omega arith))

-- a word without keys
word_none : (words : List ℕ) (key : ℕ) → get_or words (key / 32) 0 ≡ 0 → has_bit words key ≡ false
word_none words key e = rw (e, bit_at-zero (key % 32)) refl

pub keys-none : (words : List ℕ) (n : ℕ) → 3 ≤ n → ((word : ℕ) → word < n → get_or words word 0 ≡ 0) → set_keys (record { rows = rows_of words }) ≡ []
keys-none words n all none = of_words words ∙ filter_none (has_bit words) 0 96 (λ key l m. word_none words key (none (key / 32) (omega arith)))

abbrev cleared : ℕ → ℕ → ℕ
cleared word column = bit_and word (bit_not w32 (1 * 2 ^ column % 4294967296))

-- without a key
abbrev pub without : List ℕ → ℕ → ℕ → List ℕ
without words place column = set words place (cleared (get_or words place 0) column)

same_word : (key place column : ℕ) → column < 32 → key / 32 ≡ place → (key ≡ 32 * place + column → ⊥) → key % 32 ≡ column → ⊥
same_word key place column l e n m = n (omega arith)

without_other : (words : List ℕ) (place column key : ℕ) → length words ≡ 3 → place < 3 → column < 32 → (key ≡ 32 * place + column → ⊥) → has_bit (without words place column) key ≡ has_bit words key
without_other words place column key three l m n =
    elim (cases_eq (key / 32) place) [
      | inl e ↦ (
          let in_words : place < length words = omega arith in
          let apart : key % 32 ≡ column → ⊥ = same_word key place column m e n in
          rw (e, get_or-set_same words place (cleared (get_or words place 0) column) 0 in_words, bit_at_clear_other w32 (get_or words place 0) column m (key % 32) (omega arith) apart) refl)
      | inr e ↦ rw (get_or-set_other words place (key / 32) (cleared (get_or words place 0) column) 0 e) refl
    ]

without_same : (words : List ℕ) (place column : ℕ) → length words ≡ 3 → place < 3 → column < 32 → has_bit (without words place column) (32 * place + column) ≡ false
without_same words place column three l m =
    let in_words : place < length words = omega arith in
    let r : (32 * place + column) / 32 ≡ place = omega arith in
    let c : (32 * place + column) % 32 ≡ column = omega arith in
    rw (r, c, get_or-set_same words place (cleared (get_or words place 0) column) 0 in_words, bit_at_clear_same w32 (get_or words place 0) column m) refl

has_first : (words : List ℕ) (place column : ℕ) → column < 32 → bit_at (get_or words place 0) column ≡ 1 → has_bit words (32 * place + column) ≡ true
has_first words place column m e =
    let r : (32 * place + column) / 32 ≡ place = omega arith in
    let c : (32 * place + column) % 32 ≡ column = omega arith in
    rw (r, c, e) refl

none_before : (words : List ℕ) (place column : ℕ) → column < 32 → ((w : ℕ) → w < place → get_or words w 0 ≡ 0) → ((i : ℕ) → i < column → bit_at (get_or words place 0) i ≡ 0)
    → (key : ℕ) → key < 32 * place + column → has_bit words key ≡ false
none_before words place column m none zeros key l =
    elim (cases_eq (key / 32) place) [
      | inl e ↦ (let z : bit_at (get_or words place 0) (key % 32) ≡ 0 = zeros (key % 32) (omega arith) in rw (e, z) refl)
      | inr e ↦ word_none words key (none (key / 32) (omega arith))
    ]

-- the first key, and the keys without it
pub keys-first : (words : List ℕ) (place column : ℕ) → length words ≡ 3 → place < 3 → get_or words place 0 < 2 ^ 32 → (get_or words place 0 ≡ 0 → ⊥) → ((w : ℕ) → w < place → get_or words w 0 ≡ 0)
    → column ≡ trailing_zeros w32 (get_or words place 0)
    → set_keys (record { rows = rows_of words }) ≡ (32 * place + column) ∷ set_keys (record { rows = rows_of (without words place column) })
keys-first words place column three l fits some none e =
    let b = bit_at-trailing_zeros w32 (get_or words place 0) (omega arith) fits in
    let m : column < 32 = rw e b.0 in
    of_words words
    ∙ filter_first (has_bit words) (has_bit (without words place column)) 0 96 (32 * place + column) (omega arith) (omega arith)
    (has_first words place column m (rw e b.1)) (without_same words place column three l m)
    (none_before words place column m none (λ i x. b.2 i (rw e at x)))
    (λ key x n. without_other words place column key three l m n)
    ∙ ap (λ (rest : List ℕ). (32 * place + column) ∷ rest) (sym (of_words (without words place column)))

-- the words before this one have no key, and the keys are these
pub record NoneBefore (words : List ℕ) (place : ℕ) (keys : List ℕ) : Type 0 where
  pub three : length words ≡ 3
  pub none : (w : ℕ) → w < place → get_or words w 0 ≡ 0
  pub same : keys ≡ set_keys (record { rows = rows_of words })
