-- Trusted: the bits of a data item's data.
use Rattle.std.specs.Prelude.{ℕ, ◌/◌, ◌%◌, ◌^◌, ◌==◌, Bool}

-- a bit is set, where bit 0 is the lowest
abbrev pub has_bit : ℕ → ℕ → Bool
has_bit n flags = flags / 2 ^ n % 2 == 1

-- What a set bit of an Input, Output or Feature item says, and a clear one (HID 1.11, 6.2.2.5): Constant or Data, Variable
-- or Array, Relative or Absolute, Wrap or No Wrap, Non Linear or Linear, No Preferred or Preferred State, Null State or No
-- Null position, Volatile or Non Volatile, Buffered Bytes or Bit Field.
abbrev pub constant_bit : ℕ
constant_bit = 0

abbrev pub variable_bit : ℕ
variable_bit = 1

abbrev pub relative_bit : ℕ
relative_bit = 2

abbrev pub wrap_bit : ℕ
wrap_bit = 3

abbrev pub non_linear_bit : ℕ
non_linear_bit = 4

abbrev pub no_preferred_bit : ℕ
no_preferred_bit = 5

abbrev pub null_state_bit : ℕ
null_state_bit = 6

abbrev pub volatile_bit : ℕ
volatile_bit = 7

abbrev pub buffered_bit : ℕ
buffered_bit = 8
