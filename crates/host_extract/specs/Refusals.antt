-- Trusted: which reports are not read.
use Rattle.shapes.specs.Shapes.{Bytes}
use Rattle.std.specs.Prelude.{ℕ, nat_lt, if◌then◌else◌, [], ◌∷◌, length, Option, Some, None}
use Rattle.descriptor_parse.specs.declared.field.Kind.TheVariants.{Input}
use Rattle.descriptor_parse.specs.Descriptor.{DescriptorValue, report_len}
use Rattle.host_extract.specs.declared.error.ExtractError.{ExtractError}
use Rattle.host_extract.specs.declared.error.ExtractError.TheVariants.{Empty, UnknownId, Short, Memory}
use Rattle.host_extract.specs.Found.{id_of}

-- the number of a refusal
abbrev pub number_of : ExtractError → ℕ
number_of Empty = 1
number_of UnknownId = 2
number_of Short = 3
number_of Memory = 4

-- A report of no byte is refused; then one that begins with an ID which no input report has, where IDs are used; then
-- one that is shorter than the input report. Without IDs and without input reports each report with a byte is read.
abbrev pub refused_by_len : DescriptorValue → Bytes → Option ℕ → Option ExtractError
refused_by_len d report None = if d.uses_ids then Some UnknownId else None
refused_by_len d report (Some len) = if nat_lt (length report) len then Some Short else None

-- why a report is refused, if it is
unfoldable pub refusal : DescriptorValue → Bytes → Option ExtractError
refusal d [] = Some Empty
refusal d (b ∷ bs) = refused_by_len d (b ∷ bs) (report_len d Input (id_of d (b ∷ bs)))
