use Rattle.flash_model.proofs.ByMask.{whole_program, no_program, whole_erase, no_erase}
use Rattle.flash_model.proofs.theorems.torn_may_be_whole_or_nothing.Goals as goal

pub returns-clause-whole_program : goal.returns-clause-whole_program
returns-clause-whole_program c old new page slot programmed w = whole_program old page slot programmed new w

pub returns-clause-no_program : goal.returns-clause-no_program
returns-clause-no_program c old page slot programmed = no_program old page slot programmed

pub returns-clause-whole_erase : goal.returns-clause-whole_erase
returns-clause-whole_erase c old new page i w = whole_erase old page new i w

pub returns-clause-no_erase : goal.returns-clause-no_erase
returns-clause-no_erase c old page = no_erase old page
