use Rattle.std.proofs.Common.{rules}
use Rattle.keymap_store.proofs.store.StoreOf.busy.Goals as goal

pub returns : goal.returns
returns g c = search rules
