use Rattle.std.proofs.Common.{sym}
use Rattle.layers.proofs.CommandWords.{command_of_its_word}
use Rattle.keymap_store.proofs.command_word.CommandWord.word.Goals as goal

pub returns-clause-value : goal.returns-clause-value
returns-clause-value c = rw (← c.self.view_is) (sym c.self.invariant.1)

pub returns-clause-read_back : goal.returns-clause-read_back
returns-clause-read_back c = rw (← c.self.view_is) (command_of_its_word _ c.self.inside.word (sym c.self.invariant.1) c.self.invariant.0)

pub returns-clause-a_command : goal.returns-clause-a_command
returns-clause-a_command c = rw (← c.self.view_is) c.self.invariant.0
