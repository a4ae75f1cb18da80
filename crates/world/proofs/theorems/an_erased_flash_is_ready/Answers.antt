use Rattle.world.proofs.Progressing.{erased_ready}
use Rattle.world.proofs.theorems.an_erased_flash_is_ready.Goals as goal

pub returns : goal.returns
returns g defaults start armed erased = erased_ready defaults start armed erased
