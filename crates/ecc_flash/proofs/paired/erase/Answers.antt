use Rattle.ecc_flash.proofs.Operating.{erases, torn_all, may_erase}
use Rattle.ecc_flash.proofs.paired.erase.Goals as goal

pub returns-in-Ok-clause-kept : goal.returns-in-Ok-clause-kept
returns-in-Ok-clause-kept g c = torn_all _ _ _ c.args.page c.requires.kept c.erase_units.ensures.outcome c.erase_units.ensures.others

pub returns-in-Ok-clause-outcome : goal.returns-in-Ok-clause-outcome
returns-in-Ok-clause-outcome g c = erases _ _ _ c.args.page c.requires.in_pages c.requires.kept c.erase_units.ensures.outcome c.erase_units.ensures.others c.in-Ok.ensures.read_back

pub returns-in-Err-clause-kept : goal.returns-in-Err-clause-kept
returns-in-Err-clause-kept g c = torn_all _ _ _ c.args.page c.requires.kept c.erase_units.ensures.outcome c.erase_units.ensures.others

pub returns-in-Err-clause-outcome : goal.returns-in-Err-clause-outcome
returns-in-Err-clause-outcome g c = may_erase _ _ _ c.args.page c.requires.in_pages c.requires.kept c.erase_units.ensures.outcome c.erase_units.ensures.others
