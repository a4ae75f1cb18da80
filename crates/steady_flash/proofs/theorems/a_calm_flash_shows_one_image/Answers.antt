use Rattle.steady_flash.proofs.Shrinking.{one_image}
use Rattle.steady_flash.proofs.theorems.a_calm_flash_shows_one_image.Goals as goal

pub returns : goal.returns
returns c = one_image
