-- Trusted: the data items of a descriptor's fields.
use Rattle.std.specs.Prelude.{ℕ, ◌&&◌, Bool, false, List, map, slice_get, Option, Some, None}
use Rattle.field_details.specs.declared.detail.Detail.{Detail}
use Rattle.field_details.specs.Bits.{has_bit, variable_bit, null_state_bit, buffered_bit}
use Rattle.field_details.specs.Reports.{data_fields}

-- The item of a field with its place among all data items: padding is no field, and each other one is.
abbrev pub item_of : List Detail → ℕ → Option (ℕ × Detail)
item_of details field = slice_get (data_fields details) field

-- the places of the items of all fields
unfoldable pub places_of : List Detail → List ℕ
places_of details = map (λ p. p.0) (data_fields details)

-- An element can be null if its item is Variable and has Null State (HID 1.11, 5.10 and 6.2.2.5).
abbrev pub can_be_null : Detail → Bool
can_be_null detail = has_bit variable_bit detail.flags && has_bit null_state_bit detail.flags

-- whether the elements of each field can
unfoldable pub null_states_of : List Detail → List Bool
null_states_of details = map (λ p. can_be_null p.1) (data_fields details)

-- the item says Buffered Bytes
abbrev pub says_buffered : Option (ℕ × Detail) → Bool
says_buffered None = false
says_buffered (Some item) = has_bit buffered_bit item.1.flags
