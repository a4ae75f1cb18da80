-- Trusted: which values the bits of a place hold, and which writes into one are refused (HID 1.11, 5.8 and 6.2.2.7).
use Rattle.shapes.specs.Shapes.{Bytes}
use Rattle.std.specs.Prelude.{◌≡◌, ℕ, ◌+◌, ◌*◌, ◌^◌, ◌<◌, if◌then◌else◌, nat_lt, not, ◌&&◌, Bool, length, ℤ, pos, ◌+ℤ◌, ◌-ℤ◌, int_lt, Option, Some, None}
use Rattle.std.specs.Int.{bit_at}
use Rattle.descriptor_parse.specs.declared.field.Field.{Field}
use Rattle.host_extract.specs.Numbers.{report_bit, value_under}
use Rattle.field_values.specs.declared.place.PlaceError.{PlaceError}
use Rattle.field_values.specs.declared.place.PlaceError.TheVariants.{NoPlace, Short, TooLarge, OutOfRange}

-- a value is one of a number of so many bits: in two's complement under a negative minimum, else without a sign
abbrev pub is_held : ℤ → ℕ → ℤ → Bool
is_held minimum size value =
    if int_lt minimum (pos 0) then not (int_lt (value +ℤ value) (pos 0 -ℤ pos (2 ^ size))) && int_lt (value +ℤ value) (pos (2 ^ size))
    else not (int_lt value (pos 0)) && int_lt value (pos (2 ^ size))

-- the first bit of a place, after the ID byte
abbrev pub place_bit : Field → ℕ → ℕ
place_bit field place = field.bit + field.size * place

-- the bytes have all bits of a place
abbrev pub has_bits : Field → Bytes → ℕ → Bool
has_bits field bytes place = not (nat_lt (8 * length bytes) (place_bit field place + field.size))

-- the bits of a report from one on are those of a value, as far as there are bytes: of the number of so many bits that is it
pub record AreBitsOf (minimum : ℤ) (size : ℕ) (value : ℤ) (bytes : Bytes) (from : ℕ) : Type 0 where
  pub number : ℕ
  pub small : number < 2 ^ size
  pub is_value : value_under minimum size number ≡ value
  pub inside : (i : ℕ) → i < size → from + i < 8 * length bytes → report_bit bytes (from + i) ≡ bit_at number i

-- a value is within the logical extents, which are within themselves
abbrev pub is_within : Field → ℤ → Bool
is_within field value = not (int_lt value field.min) && not (int_lt field.max value)

-- why a value is not written into a place, if it is not: the first that holds
abbrev pub refusal : Field → Bytes → ℕ → ℤ → Option PlaceError
refusal field bytes place value =
    if not (nat_lt place field.count) then Some NoPlace else
    (if not (has_bits field bytes place) then Some Short else
    (if not (is_held field.min field.size value) then Some TooLarge else
    (if not (is_within field value) then Some OutOfRange else None)))
