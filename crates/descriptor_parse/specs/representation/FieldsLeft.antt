-- Representation: the fields that an iterator has still to give.
use Rattle.std.specs.Prelude.{◌≡◌, ℕ, List, filter, zip, drop}
use Rattle.descriptor_parse.specs.declared.field.Kind.{Kind}
use Rattle.descriptor_parse.specs.declared.field.Field.{Field}
use Rattle.descriptor_parse.specs.representation.Parts.{parts}
use Rattle.descriptor_parse.specs.Readers.{is_of_report}
use Rattle.descriptor_parse.specs.representation.Linked.{first_from}

-- the fields of a report from a place on, whose usages stand in one list
abbrev pub fields_left : Kind → ℕ → ℕ → List Field → List ℕ → List (ℕ × ℕ) → List (Field × List (ℕ × ℕ))
fields_left kind id place fields ends ranges = filter (λ p. is_of_report kind id p.0) (drop place (zip fields (parts ends ranges)))

-- no field of the report is between a place and the report's next field
abbrev pub IsNext : Kind → ℕ → ℕ → List Field → Type 0
IsNext kind id place fields = first_from kind id place (drop place fields) ≡ place
