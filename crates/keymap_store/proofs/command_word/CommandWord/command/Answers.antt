use Rattle.layers.proofs.CommandWords.{at_1, at_2}
use Rattle.keymap_store.proofs.command_word.CommandWord.command.Goals as goal

pub known-requires : goal.known-requires
known-requires c = (at_1 c.self.inside.word c.self.invariant.0 c.in-1.is).0

pub known-requires-in-1 : goal.known-requires-in-1
known-requires-in-1 c = (at_1 c.self.inside.word c.self.invariant.0 c.in-1.is).1

pub known-requires-in-1-2 : goal.known-requires-in-1-2
known-requires-in-1-2 c = (at_1 c.self.inside.word c.self.invariant.0 c.in-1.is).2

pub known-requires-in-2 : goal.known-requires-in-2
known-requires-in-2 c = at_2 c.self.inside.word c.self.invariant.0 c.in-2.is
