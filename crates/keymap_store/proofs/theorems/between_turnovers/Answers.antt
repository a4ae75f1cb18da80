use Rattle.keymap_store.proofs.Between.{between}
use Rattle.keymap_store.proofs.theorems.between_turnovers.Goals as goal

pub returns : goal.returns
returns c defaults first old new last n a f b = between defaults first old new last n a f b
