use Rattle.field_values.proofs.Filling.{IsFilled}
use Rattle.field_values.proofs.fill.fill_places.Given as goal

abbrev pub invariant-loop-place : goal.invariant-loop-place
invariant-loop-place l = IsFilled l.field l.fn.value l.fn.bytes l.place l.bytes
