use Rattle.keymap_store.proofs.Cutting.{cut_leaves}
use Rattle.keymap_store.proofs.theorems.a_cut_inside.Goals as goal

pub returns-clause-leaves : goal.returns-clause-leaves
returns-clause-leaves c defaults old new store operation m n i t = cut_leaves defaults old new store operation m n i t
