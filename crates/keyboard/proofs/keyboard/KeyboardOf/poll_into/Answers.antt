use Rattle.keyboard.specs.Keys.{key_calls}
use Rattle.keyboard.proofs.Standing.{refines_polled}
use Rattle.keyboard.proofs.keyboard.KeyboardOf.poll_into.Goals as goal

pub returns-clause-refines : goal.returns-clause-refines
returns-clause-refines g c start past s =
    let t = rw (← c.self.view_is) at s in
    refines_polled g.D.Defaults.defaults start past _ c.poll_into.new.self _ t (c.poll_into.ensures.answer (key_calls g.D.Defaults.defaults start past) t.now.keys) (c.poll_into.ensures.refines (key_calls g.D.Defaults.defaults start past) t.now.keys)
