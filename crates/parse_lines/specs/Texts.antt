-- Trusted: what a text in hex declares, and why it is refused.
use Rattle.shapes.specs.Shapes.{Bytes}
use Rattle.std.specs.Prelude.{◌≡◌, ◌≢◌, ℕ, ◌<◌, ◌≤◌, length, Option, IfSome, ⊤}
use Rattle.text_io.specs.Readers.{longest}
use Rattle.text_io.specs.declared.fault.ReadError.{ReadError}
use Rattle.text_io.specs.declared.fault.ReadError.TheVariants as read
use Rattle.descriptor_parse.specs.declared.fault.ParseFault.TheVariants as fault
use Rattle.descriptor_parse.specs.Descriptor.{DescriptorValue, Describes}
use Rattle.descriptor_parse.specs.Faults.{IsFaultless, IsFirstFault, MayWantMemory, all_items}
use Rattle.descriptor_parse.specs.Fields.{fields, field_usages}
use Rattle.parse_lines.specs.HexTexts.{SaysBytes, IsNoHex}
use Rattle.parse_lines.specs.Prints.{field_lines}
use Rattle.parse_lines.specs.declared.fault.LinesError.{LinesError}
use Rattle.parse_lines.specs.declared.fault.LinesError.TheVariants as error

-- the text is short enough, and says the bytes of a report descriptor without a fault
pub record IsSound (text : Bytes) : Type 0 where
  pub bytes : Bytes
  pub short : length text ≤ longest
  pub says : SaysBytes text bytes
  pub faultless : IsFaultless bytes

-- the text declares this descriptor
pub record Declares (text : Bytes) (d : DescriptorValue) : Type 0 where
  pub bytes : Bytes
  pub short : length text ≤ longest
  pub says : SaysBytes text bytes
  pub faultless : IsFaultless bytes
  pub describes : Describes (all_items bytes) d

-- the lines of the fields that these bytes declare, in order of declaration
abbrev pub lines_of : Bytes → Bytes
lines_of bytes = field_lines (fields (all_items bytes)) (field_usages (all_items bytes))

-- the lines of the fields that the text declares
pub record IsOutput (text lines : Bytes) : Type 0 where
  pub bytes : Bytes
  pub says : SaysBytes text bytes
  pub prints : lines ≡ lines_of bytes

-- why the bytes of a report descriptor are refused: for their first fault, or because an item that may want memory
-- found none, before any fault
abbrev pub IsRefusal : Bytes → LinesError → Type 0
IsRefusal bytes (error.Refused e) = (e.fault ≢ fault.Memory) × IsFirstFault bytes e
IsRefusal bytes error.Memory = (offset : ℕ) × MayWantMemory bytes offset
IsRefusal bytes _ = ⊥

-- a text that is not read is refused
abbrev pub unread : ReadError → LinesError
unread read.TooLong = error.TooLong
unread read.Input = error.Input
unread read.Memory = error.Memory

-- why a text, where it is known, is refused
abbrev pub IsTextFault : Option Bytes → LinesError → Type 0
IsTextFault text error.TooLong = IfSome text (λ t. longest < length t)
IsTextFault text error.BadHexText = IfSome text (λ t. (length t ≤ longest) × IsNoHex t)
IsTextFault text (error.Refused e) = IfSome text (λ t. (bytes : Bytes)
    × (length t ≤ longest) × SaysBytes t bytes × (e.fault ≢ fault.Memory) × IsFirstFault bytes e)
IsTextFault text error.Input = ⊤
IsTextFault text error.Memory = ⊤
IsTextFault text error.Output = ⊤
