-- Edges without a bit.
use Rattle.std.proofs.Common.{◌≡◌, ℕ, ◌<◌, ◌/◌, ◌%◌, ◌==◌, true, false, List, max, get_or, bit_or, refl, arith, ◌∙◌, sym, inl, inr}
use Rattle.std.specs.Int.{bit_at}
use Rattle.std.proofs.lemmas.Bool.{cases_lt, eqb-true}
use Rattle.std.proofs.lemmas.Nat.Bits.{bit_at-zero, bit_at_or}
use Rattle.debounce.specs.declared.Scan.{Scan}
use Rattle.debounce.specs.Scans.{has}
use Rattle.debounce.specs.representation.Rows.{rows_of}
use Rattle.debounce.proofs.Fed.{half_bit, parts_first, parts_second, parts_third}

left_clear : (a b i : ℕ) → bit_at (bit_or a b) i ≡ 0 → bit_at a i ≡ 0
left_clear a b i e = let z : max (bit_at a i) (bit_at b i) ≡ 0 = sym (bit_at_or a b i) ∙ e in omega (arith, z)

right_clear : (a b i : ℕ) → bit_at (bit_or a b) i ≡ 0 → bit_at b i ≡ 0
right_clear a b i e = let z : max (bit_at a i) (bit_at b i) ≡ 0 = sym (bit_at_or a b i) ∙ e in omega (arith, z)

-- three words that hold the keys of a scan, pair by pair
pub record AreWords (scan : Scan) (a b c : ℕ) : Type 0 where
  pub first : (key : ℕ) → key / 32 ≡ 0 → bit_at a (key % 32) ≡ bit_at (get_or scan.rows (key / 16) 0) (key % 16)
  pub second : (key : ℕ) → key / 32 ≡ 1 → bit_at b (key % 32) ≡ bit_at (get_or scan.rows (key / 16) 0) (key % 16)
  pub third : (key : ℕ) → key / 32 ≡ 2 → bit_at c (key % 32) ≡ bit_at (get_or scan.rows (key / 16) 0) (key % 16)

none_in : (scan : Scan) (a b c key : ℕ) → AreWords scan a b c → ((i : ℕ) → bit_at (bit_or (bit_or a b) c) i ≡ 0) → key < 96 → has scan key ≡ false
unfolding has
none_in scan a b c key w z l = elim (cases_lt key 32) [
  | inl m ↦ rw (← w.first key (omega arith), left_clear a b (key % 32) (left_clear (bit_or a b) c (key % 32) (z (key % 32)))) refl
  | inr m ↦ elim (cases_lt key 64) [
    | inl n ↦ rw (← w.second key (omega arith), right_clear a b (key % 32) (left_clear (bit_or a b) c (key % 32) (z (key % 32)))) refl
    | inr n ↦ rw (← w.third key (omega arith), right_clear (bit_or a b) c (key % 32) (z (key % 32))) refl
  ]
]

clear : (n i : ℕ) → (n == 0) ≡ true → bit_at n i ≡ 0
clear n i e = rw (eqb-true n 0 e) (bit_at-zero i)

pub none_released : (scan : Scan) (a b c other key : ℕ) → AreWords scan a b c → (bit_or (bit_or (bit_or a b) c) other == 0) ≡ true → key < 96 → has scan key ≡ false
none_released scan a b c other key w e l = none_in scan a b c key w (λ i. left_clear (bit_or (bit_or a b) c) other i (clear (bit_or (bit_or (bit_or a b) c) other) i e)) l

pub none_pressed : (scan : Scan) (a b c other key : ℕ) → AreWords scan a b c → (bit_or other (bit_or (bit_or a b) c) == 0) ≡ true → key < 96 → has scan key ≡ false
none_pressed scan a b c other key w e l = none_in scan a b c key w (λ i. right_clear other (bit_or (bit_or a b) c) i (clear (bit_or other (bit_or (bit_or a b) c)) i e)) l

-- words without a bit
pub none_of_words : (scan : Scan) (words : List ℕ) (key : ℕ) → scan.rows ≡ rows_of words → (bit_or (bit_or (get_or words 0 0) (get_or words 1 0)) (get_or words 2 0) == 0) ≡ true → key < 96 → has scan key ≡ false
none_of_words scan words key e z l =
    none_in scan (get_or words 0 0) (get_or words 1 0) (get_or words 2 0) key (record {
      first = λ k at. sym (rw e (half_bit (rows_of words) 0 (get_or words 0 0) k (parts_first _ _ _) at));
      second = λ k at. sym (rw e (half_bit (rows_of words) 1 (get_or words 1 0) k (parts_second _ _ _) at));
      third = λ k at. sym (rw e (half_bit (rows_of words) 2 (get_or words 2 0) k (parts_third _ _ _) at));
    }) (λ i. clear (bit_or (bit_or (get_or words 0 0) (get_or words 1 0)) (get_or words 2 0)) i z) l
