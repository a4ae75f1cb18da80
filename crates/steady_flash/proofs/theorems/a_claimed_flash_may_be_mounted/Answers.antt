use Rattle.steady_flash.proofs.Telling.{claimed_told}
use Rattle.steady_flash.proofs.theorems.a_claimed_flash_may_be_mounted.Goals as goal

pub returns : goal.returns
returns c = claimed_told
