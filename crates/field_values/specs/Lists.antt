-- Trusted: which values of an Array name a usage, and which name no control (HID 1.11, 6.2.2.5 and 6.2.2.8).
use Rattle.shapes.specs.Shapes.{UsageList}
use Rattle.std.specs.Prelude.{◌≡◌, ◌≢◌, ℕ, ◌<◌, ◌%◌, ◌^◌, ◌==◌, true, ◌&&◌, Bool, slice_get, ℤ, Option, Some, None}
use Rattle.descriptor_parse.specs.declared.field.Field.{Field}
use Rattle.field_values.specs.Held.{is_held}
use Rattle.field_values.specs.Values.{listed}

-- a usage whose low half is 0 is none
abbrev pub is_no_control : Option ℕ → Bool
is_no_control None = true
is_no_control (Some usage) = usage % 2 ^ 16 == 0

-- a value that the bits hold and that names no control
abbrev pub is_unused : Field → UsageList → ℤ → Bool
is_unused field usages value = is_held field.min field.size value && is_no_control (listed field usages value)

-- a list does not have a usage
abbrev pub IsUnlisted : UsageList → ℕ → Type 0
IsUnlisted usages usage = (number : ℕ) → slice_get usages number ≢ Some usage

-- the first number with which a list has it
pub record IsFirst (usages : UsageList) (usage number : ℕ) : Type 0 where
  pub here : slice_get usages number ≡ Some usage
  pub first : (before : ℕ) → before < number → slice_get usages before ≢ Some usage
