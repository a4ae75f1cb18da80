-- Trusted: the fields of one report.
use Rattle.std.specs.Prelude.{ℕ, ◌==◌, ◌&&◌, Bool, List, filter, zip}
use Rattle.descriptor_parse.specs.declared.field.Kind.{Kind}
use Rattle.descriptor_parse.specs.declared.field.Field.{Field}
use Rattle.descriptor_parse.specs.Tags.{same_kind}
use Rattle.descriptor_parse.specs.Descriptor.{DescriptorValue}

-- a field is of this report
abbrev pub is_of_report : Kind → ℕ → Field → Bool
is_of_report kind id field = same_kind field.kind kind && field.id == id

-- the fields of one report with their usages, in order
abbrev pub fields_of : DescriptorValue → Kind → ℕ → List (Field × List (ℕ × ℕ))
fields_of d kind id = filter (λ p. is_of_report kind id p.0) (zip d.fields d.ranges)
