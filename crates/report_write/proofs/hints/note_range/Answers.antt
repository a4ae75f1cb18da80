use Rattle.report_write.proofs.Hinted.{one_lowered}
use Rattle.report_write.proofs.hints.note_range.Goals as goal

pub loop-step-preserved : goal.loop-step-preserved
loop-step-preserved c = one_lowered _ _ _ _ _ _ c.loop-step.invariant c.note.ensures.length c.note.ensures.fell c.note.ensures.noted
