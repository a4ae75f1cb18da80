-- Trusted: which reports are not read.
use Rattle.shapes.specs.Shapes.{Bytes}
use Rattle.std.specs.Prelude.{ℕ, nat_lt, if◌then◌else◌, [], ◌∷◌, length, Option, Some, None}
use Rattle.descriptor_parse.specs.declared.field.Kind.{Kind}
use Rattle.descriptor_parse.specs.Descriptor.{DescriptorValue, report_len}
use Rattle.host_extract.specs.Found.{id_of}
use Rattle.report_read.specs.declared.error.ReadingError.{ReadingError}
use Rattle.report_read.specs.declared.error.ReadingError.TheVariants.{Empty, UnknownReport, Short}

-- there is no such report, or it is shorter than its descriptor says
abbrev pub refused_by_len : Bytes → Option ℕ → Option ReadingError
refused_by_len report None = Some UnknownReport
refused_by_len report (Some len) = if nat_lt (length report) len then Some Short else None

-- why a report of a kind is not read, if it is not: the first that holds
unfoldable pub refusal : DescriptorValue → Kind → Bytes → Option ReadingError
refusal d kind [] = Some Empty
refusal d kind (b ∷ bs) = refused_by_len (b ∷ bs) (report_len d kind (id_of d (b ∷ bs)))
