-- Trusted: what a place of a field holds beside its number (HID 1.11, 5.10, 6.2.2.5 and 6.2.2.8).
use Rattle.shapes.specs.Shapes.{UsageList}
use Rattle.std.specs.Prelude.{ℕ, if◌then◌else◌, not, ◌&&◌, Bool, slice_get, ℤ, Option, None}
use Rattle.std.specs.Int.{int_gap}
use Rattle.descriptor_parse.specs.declared.field.Field.{Field}
use Rattle.descriptor_parse.specs.Descriptor.{usage_of_place}
use Rattle.field_values.specs.declared.value.Within.{Within}
use Rattle.field_values.specs.declared.value.Within.TheVariants.{Range, Null, Out}
use Rattle.field_values.specs.Held.{is_within}

-- Outside the logical extents a Variable field with Null State has no value; in any other field the value is out of range.
abbrev pub where_is : Field → Bool → ℤ → Within
where_is field null_state value =
    if is_within field value then Range else (if null_state && not field.array then Null else Out)

-- A value of an Array names the usage of the list with the number that it is above the Logical Minimum, if it is within the
-- logical extents.
abbrev pub listed : Field → UsageList → ℤ → Option ℕ
listed field usages value = if is_within field value then slice_get usages (int_gap field.min value) else None

-- A place of a Variable field has a usage of its own; one of an Array the usage that its value names.
abbrev pub usage_read : Field → UsageList → ℕ → ℤ → Option ℕ
usage_read field usages place value =
    if field.array then listed field usages value else usage_of_place field usages place
