-- Trusted: the bytes of fields of Buffered Bytes (HID 1.11, 6.2.2.5).
use Rattle.shapes.specs.Shapes.{Bytes}
use Rattle.std.specs.Prelude.{◌≡◌, ℕ, ◌+◌, ◌*◌, ◌/◌, ◌&&◌, nat_lt, if◌then◌else◌, Bool, length, slice_get, Option, Some, None}
use Rattle.std.specs.Option.{option_or}
use Rattle.descriptor_parse.specs.declared.field.Kind.{Kind}
use Rattle.descriptor_parse.specs.declared.field.Field.{Field}
use Rattle.descriptor_parse.specs.Readers.{is_of_report}
use Rattle.host_extract.specs.Numbers.{report_bit}
use Rattle.host_extract.specs.Found.{id_of}
use Rattle.report_read.specs.declared.error.ReadingError.{ReadingError}
use Rattle.report_read.specs.declared.error.ReadingError.TheVariants.{NoSuchField}
use Rattle.report_read.specs.Items.{item_of, says_buffered}
use Rattle.report_read.specs.Values.{ReaderValue}
use Rattle.report_read.specs.Refusals.{refusal}

-- a bit of a field in the bytes of a report after its ID; those past its last one are 0
abbrev pub field_bit : Field → Bytes → ℕ → ℕ
field_bit field report n = if nat_lt n (field.size * field.count) then report_bit report (field.bit + n) else 0

-- the bits of a field one after the other, in as many bytes as they need
pub record AreBytesOf (field : Field) (report bytes : Bytes) : Type 0 where
  pub enough : length bytes ≡ (field.size * field.count + 7) / 8
  pub bits : (n : ℕ) → report_bit bytes n ≡ field_bit field report n

-- a field, if it is of a report and its item says Buffered Bytes
abbrev pub buffered_if : Kind → ℕ → Bool → Option Field → Option Field
buffered_if kind id says None = None
buffered_if kind id says (Some field) = if is_of_report kind id field && says then Some field else None

-- the field with a number, if it is one of Buffered Bytes of a report
abbrev pub buffered_field : ReaderValue → Kind → Bytes → ℕ → Option Field
buffered_field reader kind report number =
    buffered_if kind (id_of reader.descriptor report) (says_buffered (item_of reader.details.fields.items number)) (slice_get reader.descriptor.fields number)

-- the bytes of a field, if there is one
abbrev pub AreBytesIn : Option Field → Bytes → Bytes → Type 0
AreBytesIn None report bytes = ⊥
AreBytesIn (Some field) report bytes = AreBytesOf field report bytes

-- there is no such field
abbrev pub refused_field : Option Field → Option ReadingError
refused_field None = Some NoSuchField
refused_field (Some field) = None

-- why the bytes of a field are not read, if they are not: the first that holds
unfoldable pub buffered_refusal : ReaderValue → Kind → Bytes → ℕ → Option ReadingError
buffered_refusal reader kind report number =
    option_or (refusal reader.descriptor kind report) (refused_field (buffered_field reader kind report number))
