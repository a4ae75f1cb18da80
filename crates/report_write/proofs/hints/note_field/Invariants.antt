use Rattle.report_write.proofs.Hinted.{IsNoted}
use Rattle.report_write.proofs.hints.note_field.Given as goal

abbrev pub invariant-loop-range : goal.invariant-loop-range
invariant-loop-range l = IsNoted l.its l.fn.fields l.fn.ranges l.fields l.ranges l.field l.range
