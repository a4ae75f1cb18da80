-- Trusted: the values by which a place says that there is none, and which writes of them are refused (HID 1.11, 6.2.2.5).
use Rattle.shapes.specs.Shapes.{Bytes}
use Rattle.std.specs.Prelude.{ℕ, true, false, if◌then◌else◌, nat_lt, not, ◌&&◌, Bool, ℤ, pos, ◌+ℤ◌, ◌-ℤ◌, Option, Some, None}
use Rattle.descriptor_parse.specs.declared.field.Field.{Field}
use Rattle.field_values.specs.declared.place.PlaceError.{PlaceError}
use Rattle.field_values.specs.declared.place.PlaceError.TheVariants.{NoPlace, Short, NoNull}
use Rattle.field_values.specs.declared.null.Asked.{Asked}
use Rattle.field_values.specs.declared.null.Asked.TheVariants.{Value, Null}
use Rattle.field_values.specs.Held.{is_held, is_within, has_bits, refusal}

-- a value outside the logical extents that the bits hold
abbrev pub is_null : Field → ℤ → Bool
is_null field value = not (is_within field value) && is_held field.min field.size value

-- the one that is written: 0, or else one over the greatest, or else one under the least
abbrev pub null_of : Field → Option ℤ
null_of field =
    if is_null field (pos 0) then Some (pos 0) else
    (if is_null field (field.max +ℤ pos 1) then Some (field.max +ℤ pos 1) else
    (if is_null field (field.min -ℤ pos 1) then Some (field.min -ℤ pos 1) else None))

-- a null is written into a Variable field with Null State, and needs a value that says so
abbrev pub null_if : Bool → Option ℤ → Option PlaceError
null_if false value = Some NoNull
null_if true None = Some NoNull
null_if true (Some value) = None

-- why a null is not written into a place, if it is not: the first that holds
abbrev pub null_refusal : Field → Bool → Bytes → ℕ → Option PlaceError
null_refusal field null_state bytes place =
    if not (nat_lt place field.count) then Some NoPlace else
    (if not (has_bits field bytes place) then Some Short else null_if (null_state && not field.array) (null_of field))

-- why what is asked for is not written, if it is not
abbrev pub asked_refusal : Field → Bool → Bytes → ℕ → Asked → Option PlaceError
asked_refusal field null_state bytes place (Value value) = refusal field bytes place value
asked_refusal field null_state bytes place Null = null_refusal field null_state bytes place

-- the value that is written
abbrev pub asked_value : Field → Asked → Option ℤ
asked_value field (Value value) = Some value
asked_value field Null = null_of field
