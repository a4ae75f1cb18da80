use Rattle.flash_theorem.proofs.Stepping.{out_goes_on}
use Rattle.flash_theorem.proofs.board.out_packet.Goals as goal

pub returns-clause-takes : goal.returns-clause-takes
returns-clause-takes g c host image start past s =
    rw (c.just.ensures, c.as_answer.ensures)
    (out_goes_on g.D.Defaults.defaults start past _ _ host image c.args.packet.now c.as_slice.result.now c.out.result c.as_slice.ensures.value s (c.out.ensures.refines _ _ s.world.keyboard) (c.out.ensures.answer _ _ s.world.keyboard))
