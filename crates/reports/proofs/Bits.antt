use Rattle.std.proofs.Common.{◌≡◌, ◌-◌, ◌^◌, ◌==◌, ◌<◌, ℕ, zero, suc, Bool, true, false, arith, refl, ◌∙◌, sym, inl, inr, if◌then◌else◌}
use Rattle.std.specs.Int.{bit_at}
use Rattle.std.proofs.lemmas.Bool.{cases_eq, cases_Bool}
use Rattle.std.proofs.lemmas.Bool.Decides.{nat_tests}
use Rattle.std.proofs.lemmas.Nat.Bits.{bit_at_cat_low, bit_at_cat_high, bit_at-lt, same_from_bits_below}
use Rattle.reports.specs.Wanted.{number_of, byte_of}

pub number_of-lt : (test : ℕ → Bool) (n : ℕ) → number_of test n < 2 ^ n
unfolding number_of
number_of-lt test zero = omega arith
number_of-lt test (suc n) = elim (cases_Bool (test n)) [
  | inl e ↦ rw e (omega (arith, number_of-lt test n))
  | inr e ↦ rw e (omega (arith, number_of-lt test n))
]

pub bit_at-number_of : (test : ℕ → Bool) (n i : ℕ) → i < n → bit_at (number_of test n) i ≡ (if test i then 1 else 0)
unfolding number_of
bit_at-number_of test zero i l = absurd (omega arith)
bit_at-number_of test (suc n) i l = elim (cases_eq i n) [
  | inl e ↦ rw e (bit_at_cat_high (if test n then 1 else 0) n (number_of test n) n (number_of-lt test n) (omega arith)
      ∙ (let z : n - n ≡ 0 = omega arith in rw z (elim (cases_Bool (test n)) [ inl y ↦ rw y refl | inr y ↦ rw y refl ])))
  | inr d ↦ bit_at_cat_low (if test n then 1 else 0) n (number_of test n) i (omega arith) ∙ bit_at-number_of test n i (omega arith)
]

pub byte_of-lt : (test : ℕ → Bool) → byte_of test < 256
unfolding byte_of
byte_of-lt test = number_of-lt test 8

pub bit_at-byte_of : (test : ℕ → Bool) (i : ℕ) → i < 8 → bit_at (byte_of test) i ≡ (if test i then 1 else 0)
unfolding byte_of
bit_at-byte_of test i l = bit_at-number_of test 8 i l

bit_from_test : (bit : ℕ) (b : Bool) → bit < 2 → (bit == 1) ≡ b → bit ≡ (if b then 1 else 0)
bit_from_test bit true l e = grind (arith, nat_tests)
bit_from_test bit false l e = grind (arith, nat_tests)

-- a byte is told by its bits
pub byte_of-bits : (byte : ℕ) (test : ℕ → Bool) → byte < 256 → ((i : ℕ) → i < 8 → (bit_at byte i == 1) ≡ test i) → byte ≡ byte_of test
byte_of-bits byte test l bits =
    same_from_bits_below 8 byte (byte_of test) l (byte_of-lt test)
    (λ i m. bit_from_test (bit_at byte i) (test i) (bit_at-lt byte i) (bits i m) ∙ sym (bit_at-byte_of test i m))
