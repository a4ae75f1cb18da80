use Rattle.flash_theorem.proofs.Running.{promised_ok}
use Rattle.flash_theorem.proofs.board.take.Goals as goal

pub returns-clause-promise : goal.returns-clause-promise
returns-clause-promise g c =
    promised_ok g.D.Defaults.defaults g.F.NorFlash.image g.F.NorFlash.operates g.F.RestartableFlash.rests g.F.RestartableFlash.cuts c.take_one.result c.args.happening.now _ _ _ _ c.args.flash c.take_one.ensures.takes c.take_one.ensures.leaves
