use Rattle.std.proofs.Common.{arith, ◌∙◌}
use Rattle.reports.proofs.InWords.{from_eight}
use Rattle.reports.proofs.input_report.InputReport.boot.Goals as goal

pub returns : goal.returns
returns c = from_eight c.boot.result c.word.result c.word-2.result (omega arith) c.word.ensures c.word-2.ensures ∙ c.boot.ensures
