use Rattle.std.proofs.Common.{rules}
use Rattle.keymap_store.proofs.store.StoreOf.remount.Goals as goal

pub take_words-requires-clause-standard : goal.take_words-requires-clause-standard
take_words-requires-clause-standard g c = search rules
