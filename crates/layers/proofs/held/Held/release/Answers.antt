use Rattle.layers.proofs.HeldKeys.{refines_released}
use Rattle.layers.proofs.held.Held.release.Goals as goal

pub returns : goal.returns
returns c past h =
    rw (← c.number.ensures.value, ← c.from.ensures)
    (refines_released past c.self.inside.codes c.self.inside.held c.remove.new.words c.self.inside.named _ c.from.result c.remove.ensures (rw c.self.view_is h))
