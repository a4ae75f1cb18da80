use Rattle.steady_flash.proofs.Telling.{sound_told}
use Rattle.steady_flash.proofs.theorems.a_sound_flash_may_be_mounted.Goals as goal

pub returns : goal.returns
returns c = sound_told
