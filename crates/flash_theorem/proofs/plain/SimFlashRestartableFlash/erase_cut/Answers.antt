use Rattle.std.proofs.Common.{refl}
use Rattle.flash_theorem.proofs.Torn.{erase_torn}
use Rattle.flash_theorem.proofs.plain.SimFlashRestartableFlash.erase_cut.Goals as goal

pub returns-clause-outcome : goal.returns-clause-outcome
returns-clause-outcome c next e = rw e (erase_torn c.erase_page-torn.result _ _ _ _ refl c.pages-pages.ensures.whole c.erase_page-torn.ensures.outcome)
