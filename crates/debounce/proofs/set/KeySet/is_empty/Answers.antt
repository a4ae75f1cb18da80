use Rattle.std.proofs.Common.{refl}
use Rattle.debounce.proofs.NoEdges.{none_of_words}
use Rattle.debounce.proofs.set.KeySet.is_empty.Goals as goal

pub returns : goal.returns
returns c e key l = rw (← c.self.view_is) (none_of_words _ c.self.inside.words key refl e l)
