-- Trusted where this crate is called: what a printer has printed.
use Rattle.shapes.specs.Shapes.{Bytes}
use Rattle.std.specs.Prelude.{◌≡◌, [], Option}
use Rattle.std.specs.Borrow.{GName}
use Rattle.std.specs.Io.KnownBytes.{Appends, append_known}
use Rattle.text_io.specs.declared.print.Printer.{Printer}

module _ {W : Type 0} where
  -- the ghost name of the reference to the writer
  abbrev pub printer_writer : Printer W → GName
  printer_writer p = p.writer.ghost_name

  -- the bytes that the writer was given, where they are known
  abbrev pub given : (W → Option Bytes) → Printer W → Option Bytes
  given contents p = contents p.writer.now

  -- those, and what waits for the writer
  abbrev pub printed : (W → Option Bytes) → Printer W → Option Bytes
  printed contents p = append_known (given contents p) p.waiting.bytes

  -- nothing waits for the writer: it was given all that was printed
  abbrev pub NothingWaits : Printer W → Type 0
  NothingWaits p = p.waiting.bytes ≡ []

  -- this text was printed between the two
  abbrev pub Prints : (W → Option Bytes) → Printer W → Printer W → Bytes → Type 0
  Prints contents old new text = Appends (printed contents old) (printed contents new) text
