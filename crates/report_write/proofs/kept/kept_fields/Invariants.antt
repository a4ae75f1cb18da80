use Rattle.report_write.proofs.Room.{AreKept}
use Rattle.report_write.proofs.kept.kept_fields.Given as goal

abbrev pub invariant-loop-number : goal.invariant-loop-number
invariant-loop-number l = AreKept l.descriptor l.null_states l.kind l.id l.number l.kept.items
