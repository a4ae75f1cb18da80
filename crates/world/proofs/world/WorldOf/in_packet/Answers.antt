use Rattle.world.proofs.Standing.{in_reported}
use Rattle.world.proofs.world.WorldOf.in_packet.Goals as goal

pub returns : goal.returns
returns g c start past s =
    let t = rw (← c.self.view_is) at s in
    rw c.as_answer.ensures
    (in_reported g.D.Defaults.defaults start past _ c.in_packet-answer.result c.hears-refused.result c.in_packet-answer.new.self c.hears-refused.new.host t
    (c.in_packet-answer.ensures.refines _ _ t.keyboard) (c.in_packet-answer.ensures.answer _ _ t.keyboard)
    (c.hears-refused.ensures.refines _ t.host) (c.hears-refused.ensures.refused _ t.host))
