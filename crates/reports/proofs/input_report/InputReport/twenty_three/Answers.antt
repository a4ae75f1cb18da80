use Rattle.std.proofs.Common.{arith, ◌∙◌}
use Rattle.reports.proofs.InWords.{first_23}
use Rattle.reports.proofs.input_report.InputReport.twenty_three.Goals as goal

pub returns-clause-first : goal.returns-clause-first
returns-clause-first c =
    let first = first_23 c.bytes.result c.self.inside.input c.self.inside.words (omega arith) in
    rw c.self.view_is at first ∙ c.bytes.ensures
