-- Trusted: what a host reads in an input report (HID 1.11, 5.6, 6.2.2.5 and 6.2.2.8).
use Rattle.shapes.specs.Shapes.{Bytes, UsageList}
use Rattle.std.specs.Prelude.{ℕ, zero, suc, ◌+◌, ◌*◌, ◌%◌, ◌^◌, ◌==◌, if◌then◌else◌, ◌||◌, List, [], ◌∷◌, ◌++◌, drop, flat_map, slice_get, slice_index, ℤ, pos, int_lt, Option, Some, None}
use Rattle.std.specs.Int.{int_gap}
use Rattle.descriptor_parse.specs.declared.field.Kind.TheVariants.{Input}
use Rattle.descriptor_parse.specs.declared.field.Field.{Field}
use Rattle.descriptor_parse.specs.Descriptor.{DescriptorValue, usage_list, usage_of_place}
use Rattle.descriptor_parse.specs.Readers.{fields_of}
use Rattle.host_extract.specs.declared.reading.Found.{Found}
use Rattle.host_extract.specs.Numbers.{number_at, value_under}

-- the value of a place
abbrev pub value_at : Field → Bytes → ℕ → ℤ
value_at field bytes place = value_under field.min field.size (number_at bytes (field.bit + field.size * place) field.size)

-- a usage whose low half is 0 is none
abbrev pub named : Option ℕ → ℤ → List Found
named None value = []
named (Some usage) value = if usage % 2 ^ 16 == 0 then [] else record { usage = usage; value = value } ∷ []

-- A place of an array names by its value a usage of the list.
abbrev pub in_array : Field → UsageList → ℤ → List Found
in_array field usages value =
    if int_lt value field.min || int_lt field.max value then [] else named (slice_get usages (int_gap field.min value)) (pos 1)

-- what a place of a field reads
abbrev pub reading_at : Field → UsageList → Bytes → ℕ → List Found
reading_at field usages bytes place =
    if field.array then in_array field usages (value_at field bytes place)
    else named (usage_of_place field usages place) (value_at field bytes place)

-- what the first places of a field read
unfoldable pub readings_of : Field → UsageList → Bytes → ℕ → List Found
readings_of field usages bytes zero = []
readings_of field usages bytes (suc place) = readings_of field usages bytes place ++ reading_at field usages bytes place

-- what fields read, in their order
unfoldable pub found_in : List (Field × List (ℕ × ℕ)) → Bytes → List Found
found_in fields bytes = flat_map (λ p. readings_of p.0 (usage_list p.1) bytes p.0.count) fields

-- If IDs are used, a report begins with its ID (6.2.2.7).
abbrev pub id_of : DescriptorValue → Bytes → ℕ
id_of d report = if d.uses_ids then slice_index report 0 else 0

-- the bytes of a report after its ID
abbrev pub bytes_of : DescriptorValue → Bytes → Bytes
bytes_of d report = if d.uses_ids then drop 1 report else report

-- what an input report reads
unfoldable pub found : DescriptorValue → Bytes → List Found
found d report = found_in (fields_of d Input (id_of d report)) (bytes_of d report)
