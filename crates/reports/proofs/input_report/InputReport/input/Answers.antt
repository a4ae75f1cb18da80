use Rattle.reports.proofs.InWords.{is_report-first}
use Rattle.reports.proofs.input_report.InputReport.input.Goals as goal

pub returns : goal.returns
returns c = rw (← c.self.view_is) (is_report-first c.self.inside.words c.self.inside.input)
