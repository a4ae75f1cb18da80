use Rattle.layers.proofs.CommandWords.{at_from, at_kept}
use Rattle.keymap_store.proofs.command_word.CommandWord.of.Goals as goal

pub invariant_of-result : goal.invariant_of-result
invariant_of-result c = at_kept c.word.result c.args.command c.word.ensures.read_back c.word.ensures.a_command c.word.ensures.value

pub returns : goal.returns
returns c = at_from c.word.result c.args.command c.word.ensures.read_back
