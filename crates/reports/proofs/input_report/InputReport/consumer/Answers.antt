use Rattle.std.proofs.Common.{arith, ◌∙◌}
use Rattle.reports.proofs.InWords.{from_nine, ends_at_nine}
use Rattle.reports.proofs.input_report.InputReport.consumer.Goals as goal

pub invariant_of-result : goal.invariant_of-result
invariant_of-result c = ends_at_nine _ _ _ _ c.word-3.ensures

pub returns : goal.returns
returns c = from_nine c.consumer.result c.word.result c.word-2.result c.word-3.result (omega arith) c.word.ensures c.word-2.ensures c.word-3.ensures ∙ c.consumer.ensures
