use Rattle.steady_flash.proofs.Witness.{calm}
use Rattle.steady_flash.proofs.theorems.some_flash_is_calm.Goals as goal

pub returns : goal.returns
returns c = calm
