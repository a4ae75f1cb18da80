use Rattle.std.proofs.Common.{refl}
use Rattle.keyboard.specs.Endpoint.{ep_calls, view_after}
use Rattle.keyboard.proofs.Standing.{refines_setup}
use Rattle.keyboard.proofs.keyboard.KeyboardOf.setup_at.Goals as goal

pub returns-clause-refines : goal.returns-clause-refines
returns-clause-refines g c start past s =
    let t = rw (← c.self.view_is) at s in
    refines_setup g.D.Defaults.defaults start past c.args.packet.now (view_after g.D.Defaults.defaults start past) c.setup_from.new.self _ t refl
    (c.setup_from.ensures.refines (view_after g.D.Defaults.defaults start past) (ep_calls g.D.Defaults.defaults start past)
    (record { start = start; past = past; keys = t.now.keys; store = t.now.store; protocol = t.now.protocol; leds = t.now.leds; layer = t.now.layer; key = t.now.key; view_is = refl })
    t.now.ep)
