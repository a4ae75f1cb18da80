use Rattle.std.proofs.Common.{◌≡◌, take}
use Rattle.std.specs.Io.KnownBytes.{Appends}
use Rattle.text_io.specs.Printers.{printed, printer_writer}
use Rattle.parse_lines.specs.Prints.{field_lines}
use Rattle.parse_lines.proofs.text.put_fields.Given as goal

-- what was printed so far, to the same writer
pub record SoFar (lines same : Type 0) : Type 0 where
  pub printed : lines
  pub same_writer : same

abbrev pub invariant-loop-place : goal.invariant-loop-place
invariant-loop-place g l = SoFar
    (Appends (printed g.W.Write.contents l.fn.printer)
    (printed g.W.Write.contents l.printer)
    (field_lines (take l.place l.descriptor.fields) l.descriptor.ranges))
    (printer_writer l.printer ≡ printer_writer l.fn.printer)
