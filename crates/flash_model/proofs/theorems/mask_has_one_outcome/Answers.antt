use Rattle.flash_model.proofs.ByMask.{one_program, one_erase}
use Rattle.flash_model.proofs.theorems.mask_has_one_outcome.Goals as goal

pub returns-clause-programs : goal.returns-clause-programs
returns-clause-programs c old new other page slot programmed mask m n = one_program old new other page slot programmed mask m n

pub returns-clause-erases : goal.returns-clause-erases
returns-clause-erases c old new other page mask m n = one_erase old new other page mask m n
