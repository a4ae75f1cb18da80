-- Representation: the table of reports by their IDs.
use Rattle.std.specs.Prelude.{ℕ, slice_index_or}
use Rattle.descriptor_parse.specs.declared.field.Kind.{Kind}
use Rattle.descriptor_parse.specs.declared.field.Kind.TheVariants.{Input, Output, Feature}
use Rattle.descriptor_parse.specs.declared.totals.FirstFields.{FirstFields}
use Rattle.descriptor_parse.specs.declared.totals.IdReports.{IdReports}
use Rattle.descriptor_parse.specs.declared.totals.Totals.{Totals}
use Rattle.descriptor_parse.specs.Descriptor.{bits_on, no_bits}

-- past every field
abbrev pub no_field : ℕ
no_field = 65535

abbrev pub first_on : Kind → FirstFields → ℕ
first_on Input first = first.input
first_on Output first = first.output
first_on Feature first = first.feature

abbrev pub no_reports : IdReports
no_reports = record { bits = no_bits; first = record { input = no_field; output = no_field; feature = no_field } }

-- the bits of a report, 0 past the end of the table
abbrev pub bits_in : Totals → Kind → ℕ → ℕ
bits_in totals kind id = bits_on kind (slice_index_or totals.by_id.items id no_reports).bits

-- the first field of a report
abbrev pub first_in : Totals → Kind → ℕ → ℕ
first_in totals kind id = first_on kind (slice_index_or totals.by_id.items id no_reports).first
