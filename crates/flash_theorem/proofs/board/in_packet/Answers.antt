use Rattle.flash_theorem.proofs.Stepping.{in_goes_on}
use Rattle.flash_theorem.proofs.board.in_packet.Goals as goal

pub returns-clause-takes : goal.returns-clause-takes
returns-clause-takes g c image start past s =
    rw c.as_answer.ensures
    (in_goes_on g.D.Defaults.defaults start past _ _ _ _ image c.in_packet-answer.result c.hears-refused.result s (c.in_packet-answer.ensures.refines _ _ s.world.keyboard) (c.in_packet-answer.ensures.answer _ _ s.world.keyboard)
    (c.hears-refused.ensures.refines _ s.world.host) (c.hears-refused.ensures.refused _ s.world.host))
