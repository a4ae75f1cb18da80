use Rattle.report_write.proofs.Hinted.{IsLowered}
use Rattle.report_write.proofs.hints.note_range.Given as goal

abbrev pub invariant-loop-step : goal.invariant-loop-step
invariant-loop-step l = IsLowered l.fn.slots l.slots l.first l.step l.least
