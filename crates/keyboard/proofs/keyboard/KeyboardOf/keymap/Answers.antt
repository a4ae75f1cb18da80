use Rattle.keyboard.specs.Calls.{image_after}
use Rattle.keyboard.proofs.Sessions.{has_settled}
use Rattle.keyboard.proofs.keyboard.KeyboardOf.keymap.Goals as goal

pub returns-clause-settled : goal.returns-clause-settled
returns-clause-settled g c start past s =
    let t = rw (← c.self.view_is) at s in
    has_settled g.D.Defaults.defaults start past _ s.answered (c.keymap.ensures.refines (image_after start past) t.now.store)
