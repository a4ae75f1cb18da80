-- Trusted: the value by which a place of an Array says that it names no usage (HID 1.11, 6.2.2.5).
use Rattle.shapes.specs.Shapes.{UsageList}
use Rattle.std.specs.Prelude.{if◌then◌else◌, ◌&&◌, length, slice_get, ℤ, pos, ◌+ℤ◌, Option, Some, None}
use Rattle.std.specs.Option.{option_map, option_or}
use Rattle.descriptor_parse.specs.declared.field.Field.{Field}
use Rattle.field_values.specs.Nulls.{null_of}
use Rattle.field_values.specs.Lists.{is_no_control, is_unused}
use Rattle.report_write.specs.Firsts.{first}

-- a value, if it names no usage
abbrev pub if_unused : Field → UsageList → ℤ → Option ℤ
if_unused field usages value = if is_unused field usages value then Some value else None

-- the first value in the order of the list that names a usage whose low half is 0
abbrev pub id_zero : Field → UsageList → Option ℤ
id_zero field usages =
    option_map (λ number. field.min +ℤ pos number)
    (first (λ number. is_no_control (slice_get usages number) && is_unused field usages (field.min +ℤ pos number)) (length usages))

-- 0 where it names none, or else a value outside the logical extents, or else the one past the list, or else that of a usage
-- whose low half is 0
unfoldable pub unused : Field → UsageList → Option ℤ
unused field usages =
    option_or (if_unused field usages (pos 0))
    (option_or (null_of field) (option_or (if_unused field usages (field.min +ℤ pos (length usages))) (id_zero field usages)))
