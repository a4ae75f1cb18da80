use Rattle.text_io.specs.Printers.{printed, printer_writer}
use Rattle.text_io.proofs.PrintLemmas.{appends-of_text, keeps-of_text}
use Rattle.text_io.proofs.print.Printer.print.Goals as goal

pub returns-in-Ok-clause-printed : goal.returns-in-Ok-clause-printed
returns-in-Ok-clause-printed g c =
    appends-of_text printer_writer (printed g.W.Write.contents) _ _ _ (rw c.in-Ok.is at c.write.ensures.writes)

pub returns-in-Ok-clause-same_writer : goal.returns-in-Ok-clause-same_writer
returns-in-Ok-clause-same_writer g c =
    keeps-of_text printer_writer (printed g.W.Write.contents) _ _ _ (rw c.in-Ok.is at c.write.ensures.writes)
