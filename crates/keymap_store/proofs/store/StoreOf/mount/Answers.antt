use Rattle.std.proofs.Common.{rules}
use Rattle.keymap_store.proofs.store.StoreOf.mount.Goals as goal

pub returns-clause-mirrors : goal.returns-clause-mirrors
returns-clause-mirrors g c = search rules
