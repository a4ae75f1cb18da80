-- A number that is written bit by bit.
use Rattle.std.proofs.Common.{◌≡◌, ℕ, ◌+◌, ◌*◌, ◌^◌, ◌<◌, ◌≤◌, List, length, arith, ◌∙◌}
use Rattle.std.specs.Int.{bit_at}
use Rattle.std.proofs.lemmas.Nat.Bits.{same_from_bits_below}
use Rattle.host_extract.specs.Numbers.{report_bit, number_at}
use Rattle.host_extract.proofs.NumberLemmas.{number-lt, number-bit}
use Rattle.field_values.specs.Places.{IsOutside}

-- the lowest bits of a number stand from one on, and the others are what they were
pub record IsWritten (from number : ℕ) (old : List ℕ) (count : ℕ) (now : List ℕ) : Type 0 where
  pub long : length now ≡ length old
  pub written : (i : ℕ) → i < count → from + i < 8 * length old → report_bit now (from + i) ≡ bit_at number i
  pub others : (bit : ℕ) → IsOutside from count bit → report_bit now bit ≡ report_bit old bit

pub all_there : (from number : ℕ) (old : List ℕ) (size : ℕ) (now : List ℕ) → IsWritten from number old size now → number < 2 ^ size
    → from + size ≤ 8 * length old → number_at now from size ≡ number
all_there from number old size now w small within =
    same_from_bits_below size (number_at now from size) number (number-lt now size from) small
    (λ i l. number-bit now size from i l ∙ w.written i l (omega arith))
