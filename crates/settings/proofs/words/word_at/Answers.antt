use Rattle.std.proofs.Common.{◌∙◌}
use Rattle.settings.proofs.Packing.{word_none, word_with, at_with}
use Rattle.settings.proofs.words.word_at.Goals as goal

pub returns-in-None-clause-word : goal.returns-in-None-clause-word
returns-in-None-clause-word c = rw c.from.ensures (word_none c.args.change.now c.args.at c.in-None.is c.requires)

pub value_word_at-requires : goal.value_word_at-requires
value_word_at-requires c = at_with c.args.change.now c.in-Some.value c.args.at c.in-Some.is c.requires

pub returns-in-Some-clause-word : goal.returns-in-Some-clause-word
returns-in-Some-clause-word c = c.value_word_at.ensures.word ∙ word_with c.args.change.now c.in-Some.value c.args.at c.in-Some.is
