use Rattle.steady_flash.proofs.Shrinking.{shrinks_then}
use Rattle.steady_flash.proofs.theorems.cut_starts_are_as_one.Goals as goal

pub returns : goal.returns
returns c = shrinks_then
