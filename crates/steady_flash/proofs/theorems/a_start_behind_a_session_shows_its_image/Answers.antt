use Rattle.steady_flash.proofs.Cutting.{rested}
use Rattle.steady_flash.proofs.theorems.a_start_behind_a_session_shows_its_image.Goals as goal

pub returns : goal.returns
returns c = rested
