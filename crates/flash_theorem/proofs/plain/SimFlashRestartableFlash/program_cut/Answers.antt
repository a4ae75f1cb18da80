use Rattle.std.proofs.Common.{refl}
use Rattle.flash_theorem.proofs.Torn.{program_torn}
use Rattle.flash_theorem.proofs.plain.SimFlashRestartableFlash.program_cut.Goals as goal

pub returns-clause-outcome : goal.returns-clause-outcome
returns-clause-outcome c next e = rw e (program_torn c.program_slot-torn.result _ _ _ _ _ _ refl c.program_slot-torn.ensures.outcome)
