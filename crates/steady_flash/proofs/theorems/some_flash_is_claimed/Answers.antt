use Rattle.steady_flash.proofs.Witness.{claimed}
use Rattle.steady_flash.proofs.theorems.some_flash_is_claimed.Goals as goal

pub returns : goal.returns
returns c = claimed
