use Rattle.world.proofs.Standing.{out_reported}
use Rattle.world.proofs.world.WorldOf.out_packet.Goals as goal

pub returns : goal.returns
returns g c start past s =
    let t = rw (← c.self.view_is) at s in
    rw (c.just.ensures, c.as_answer.ensures)
    (out_reported g.D.Defaults.defaults start past _ c.args.packet.now c.as_slice.result.now c.out.result c.out.new.self c.as_slice.ensures.value t (c.out.ensures.refines _ _ t.keyboard) (c.out.ensures.answer _ _ t.keyboard))
