use Rattle.std.proofs.Common.{◌∙◌}
use Rattle.settings.proofs.Packing.{word_first, word_later}
use Rattle.settings.proofs.words.value_word_at.Goals as goal

pub returns-then-at-eq0-clause-word : goal.returns-then-at-eq0-clause-word
returns-then-at-eq0-clause-word c = rw (c.from.ensures, c.len-len.ensures.len) (word_first c.args.id c.args.value.now c.args.at c.if-at-eq0.true)

pub returns-else-at-eq0-clause-word : goal.returns-else-at-eq0-clause-word
returns-else-at-eq0-clause-word c = c.data_word.ensures.word ∙ rw c.as_bytes.ensures (word_later c.args.id c.args.value.now c.args.at c.if-at-eq0.false c.requires)
