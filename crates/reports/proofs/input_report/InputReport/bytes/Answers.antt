use Rattle.reports.specs.representation.Words.{first_bytes}
use Rattle.reports.proofs.InWords.{take_first}
use Rattle.reports.proofs.input_report.InputReport.bytes.Goals as goal

pub returns : goal.returns
unfolding first_bytes
returns c =
    rw (← c.self.view_is, c.four.ensures, c.four-2.ensures, c.four-3.ensures, c.four-4.ensures, c.four-5.ensures, c.four-6.ensures)
    (take_first c.self.inside.input c.self.inside.words)
