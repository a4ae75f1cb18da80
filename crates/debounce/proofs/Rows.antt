use Rattle.std.proofs.Common.{◌≡◌, ℕ, ◌/◌, ◌%◌, ◌^◌, ◌*◌, ◌<◌, ◌==◌, ◌||◌, true, false, List, length, get_or, replicate, refl, arith, bit_or, inl, inr, w16}
use Rattle.std.specs.Int.{bit_at}
use Rattle.std.proofs.Math.ListN.{set}
use Rattle.std.proofs.lemmas.Bool.{cases_eq}
use Rattle.std.proofs.lemmas.Bool.Decides.{nat_tests}
use Rattle.std.proofs.lemmas.List.{get_or-set_same, get_or-set_other, get_or-replicate}
use Rattle.std.proofs.lemmas.Nat.Bits.{bit_at_set_same, bit_at_set_other, bit_at-zero}
use Rattle.debounce.specs.Scans.{has}

pub same_test : (a : ℕ) → (a == a) ≡ true
same_test a = grind (arith, nat_tests)

pub other_test : (a b : ℕ) → (a ≡ b → ⊥) → (a == b) ≡ false
other_test a b n = grind (arith, nat_tests)

abbrev row_with : ℕ → ℕ → ℕ
row_with row key = bit_or row (1 * 2 ^ (key % 16) % 65536)

-- a set bit is the bit of its key, and no other key's
pub with_key : (rows : List ℕ) (key other : ℕ) → length rows ≡ 6 → key < 96 → other < 96
    → (bit_at (get_or (set rows (key / 16) (row_with (get_or rows (key / 16) 0) key)) (other / 16) 0) (other % 16) == 1) ≡ (other == key || (bit_at (get_or rows (other / 16) 0) (other % 16) == 1))
with_key rows key other six lk lo =
    elim (cases_eq other key) [
      | inl e ↦ (let l : key / 16 < length rows = omega arith in
          rw (e, same_test key, get_or-set_same rows (key / 16) (row_with (get_or rows (key / 16) 0) key) 0 l, bit_at_set_same w16 (get_or rows (key / 16) 0) (key % 16) (omega arith)) refl)
      | inr n ↦ elim (cases_eq (other / 16) (key / 16)) [
        | inl e ↦ (let l : key / 16 < length rows = omega arith in
            rw (other_test other key n, e, get_or-set_same rows (key / 16) (row_with (get_or rows (key / 16) 0) key) 0 l, bit_at_set_other w16 (get_or rows (key / 16) 0) (key % 16) (omega arith) (other % 16) (omega arith)) refl)
        | inr m ↦ rw (other_test other key n, get_or-set_other rows (key / 16) (other / 16) (row_with (get_or rows (key / 16) 0) key) 0 m) refl
      ]
    ]

-- a scan without bits has no key
pub has-none : (key : ℕ) → key < 96 → has (record { rows = replicate 6 0 }) key ≡ false
unfolding has
has-none key l = rw (get_or-replicate {A = ℕ} 6 (key / 16) 0 0 (omega arith), bit_at-zero (key % 16)) refl
