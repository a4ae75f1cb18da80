use Rattle.std.proofs.Common.{refl}
use Rattle.debounce.proofs.Feeding.{none-refines}
use Rattle.debounce.proofs.matrix.Matrix.new.Goals as goal

pub returns : goal.returns
returns c = none-refines _ refl refl refl refl
