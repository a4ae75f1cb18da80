use Rattle.keyboard.proofs.Confirming.{confirmed, kept_settled}
use Rattle.keyboard.proofs.theorems.confirmed_is_settled.Goals as goal

pub returns-clause-settled : goal.returns-clause-settled
returns-clause-settled c defaults start past before command h s = confirmed defaults start past before command h s

pub returns-clause-kept : goal.returns-clause-kept
returns-clause-kept c defaults start past before command image s r = kept_settled defaults start past before command image s r
