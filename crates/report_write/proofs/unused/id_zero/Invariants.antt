use Rattle.report_write.proofs.UnusedLemmas.{NoneZero}
use Rattle.report_write.proofs.unused.id_zero.Given as goal

abbrev pub invariant-loop-range : goal.invariant-loop-range
invariant-loop-range l = NoneZero l.declared.field l.declared.ranges.now l.range
