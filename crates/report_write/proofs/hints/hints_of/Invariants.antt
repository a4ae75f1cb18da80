use Rattle.report_write.specs.representation.Hints.{AreHints}
use Rattle.report_write.proofs.hints.hints_of.Given as goal

abbrev pub invariant-loop-number : goal.invariant-loop-number
invariant-loop-number l = AreHints l.descriptor l.kept l.fields.items l.ranges.items l.number
