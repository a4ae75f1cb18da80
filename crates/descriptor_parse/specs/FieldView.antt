-- Trusted: a field as iterators give it.
use Rattle.std.specs.Prelude.{ℕ, List}
use Rattle.descriptor_parse.specs.declared.field.Field.{Field}
use Rattle.descriptor_parse.specs.declared.field_usages.FieldUsages.{FieldUsages}

-- a field, and its usages as first and last of ranges
abbrev pub field_view : FieldUsages → Field × List (ℕ × ℕ)
field_view f = (f.field, f.ranges.now)
