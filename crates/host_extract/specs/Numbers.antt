-- Trusted: the numbers in the bits of a report (HID 1.11, 5.6 and 5.8).
use Rattle.shapes.specs.Shapes.{Bytes}
use Rattle.std.specs.Prelude.{ℕ, zero, suc, ◌+◌, ◌*◌, ◌/◌, ◌%◌, ◌^◌, if◌then◌else◌, nat_lt, not, ◌&&◌, slice_index, ℤ, pos, ◌-ℤ◌, int_lt}
use Rattle.std.specs.Int.{bit_at}

-- bit b of all bytes, counted from the least significant bit of the first
abbrev pub report_bit : Bytes → ℕ → ℕ
report_bit bytes b = bit_at (slice_index bytes (b / 8)) (b % 8)

-- the number that so many bits make from one on, the least significant first
unfoldable pub number_at : Bytes → ℕ → ℕ → ℕ
number_at bytes bit zero = 0
number_at bytes bit (suc size) = report_bit bytes bit + 2 * number_at bytes (bit + 1) size

-- a number of so many bits under a logical minimum: in two's complement if that is negative
abbrev pub value_under : ℤ → ℕ → ℕ → ℤ
value_under minimum size number =
    if int_lt minimum (pos 0) && not (nat_lt (2 * number) (2 ^ size)) then pos number -ℤ pos (2 ^ size) else pos number
