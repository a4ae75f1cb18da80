use Rattle.steady_flash.proofs.Shrinking.{started_behind}
use Rattle.steady_flash.proofs.theorems.a_start_behind_cut_ones_shows_what_was_there.Goals as goal

pub returns : goal.returns
returns c = started_behind
