use Rattle.flash_model.proofs.ByMask.{program_mask, may_program, erase_mask, may_erase}
use Rattle.flash_model.proofs.theorems.torn_is_by_mask.Goals as goal

pub returns-clause-programs : goal.returns-clause-programs
returns-clause-programs c old new page slot programmed io inew l m =
    (λ t. program_mask old new page slot programmed io inew l m t, λ h. may_program old page slot programmed h.0 new h.1.1)

pub returns-clause-erases : goal.returns-clause-erases
returns-clause-erases c old new page io inew l =
    (λ t. erase_mask old new page io inew l t, λ h. may_erase old page h.0 new h.1.1)
