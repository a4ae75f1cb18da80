use Rattle.flash_theorem.proofs.Stepping.{refines_first}
use Rattle.flash_theorem.proofs.board.begin.Goals as goal

pub returns-clause-refines : goal.returns-clause-refines
returns-clause-refines g c first e n = refines_first g.D.Defaults.defaults first c.start_in.result c.new.result _ e n c.start_in.ensures.refines c.new.ensures
