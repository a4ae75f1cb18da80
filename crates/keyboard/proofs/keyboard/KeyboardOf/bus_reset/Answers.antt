use Rattle.keyboard.specs.Keys.{key_calls}
use Rattle.keyboard.specs.Endpoint.{ep_calls}
use Rattle.keyboard.proofs.Standing.{refines_reset}
use Rattle.keyboard.proofs.keyboard.KeyboardOf.bus_reset.Goals as goal

pub returns-clause-refines : goal.returns-clause-refines
returns-clause-refines g c start past s =
    let t = rw (← c.self.view_is) at s in
    refines_reset g.D.Defaults.defaults start past c.reset.new.self c.bus_reset.new.self _ t (c.reset.ensures.refines (ep_calls g.D.Defaults.defaults start past) t.now.ep) (c.bus_reset.ensures (key_calls g.D.Defaults.defaults start past) t.now.keys)
