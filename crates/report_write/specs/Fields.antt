-- Trusted: the fields of one report, each with its number and whether it has Null State.
use Rattle.std.specs.Prelude.{ℕ, zero, suc, if◌then◌else◌, Bool, false, List, [], ◌∷◌, ◌++◌, length, slice_get, Option, Some, None, unwrap_or}
use Rattle.descriptor_parse.specs.declared.field.Kind.{Kind}
use Rattle.descriptor_parse.specs.declared.field.Field.{Field}
use Rattle.descriptor_parse.specs.Descriptor.{DescriptorValue}
use Rattle.descriptor_parse.specs.Readers.{is_of_report}
use Rattle.report_write.specs.declared.kept.Kept.{Kept}

-- a field with its number among those of the descriptor; one past the list has no Null State
abbrev pub kept : List Bool → ℕ → Field → Kept
kept null_states number field = record { number = number; null_state = unwrap_or (slice_get null_states number) false; field = field }

-- a field, if it is one of this report
abbrev pub kept_if : List Bool → Kind → ℕ → ℕ → Option Field → List Kept
kept_if null_states kind id number None = []
kept_if null_states kind id number (Some field) = if is_of_report kind id field then kept null_states number field ∷ [] else []

-- those of a report among the first fields of a descriptor
unfoldable pub kept_below : DescriptorValue → List Bool → Kind → ℕ → ℕ → List Kept
kept_below d null_states kind id zero = []
kept_below d null_states kind id (suc number) =
    kept_below d null_states kind id number ++ kept_if null_states kind id number (slice_get d.fields number)

-- the fields of a report, in order
abbrev pub kept_fields : DescriptorValue → List Bool → Kind → ℕ → List Kept
kept_fields d null_states kind id = kept_below d null_states kind id (length d.fields)
