use Rattle.std.proofs.Common.{refl}
use Rattle.debounce.proofs.Feeding.{none-counted}
use Rattle.debounce.proofs.debouncer.Debouncer.new.Goals as goal

pub returns : goal.returns
returns c = none-counted _ c.new.ensures refl
