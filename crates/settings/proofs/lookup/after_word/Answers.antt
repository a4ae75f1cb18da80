use Rattle.std.proofs.Common.{◌∙◌, sym}
use Rattle.settings.proofs.Reading.{skips, ends, own_head, other_head, other_none}
use Rattle.settings.proofs.lookup.after_word.Goals as goal

pub returns-in-None-clause-outcome : goal.returns-in-None-clause-outcome
returns-in-None-clause-outcome c rest = skips c.args.id c.args.reading c.args.word rest c.in-None.is (sym c.is_data.ensures ∙ c.if-is_data.true)

pub returns-then-head-id-clause-outcome : goal.returns-then-head-id-clause-outcome
returns-then-head-id-clause-outcome c rest =
    c.begun.ensures.outcome c.args.id c.args.word rest (own_head c.args.word c.in-Some-head_of.head c.args.id (sym c.in-Some-head_of.ensures.head) c.if-head-id.true)
    ∙ ends c.args.id c.args.reading.value c.args.reading.partial c.args.word rest c.requires (sym c.is_data.ensures ∙ c.if-is_data.false)

pub returns-else-head-id-clause-outcome : goal.returns-else-head-id-clause-outcome
returns-else-head-id-clause-outcome c rest =
    rw c.ended.ensures (other_head c.args.id c.args.reading.value c.args.word c.in-Some-head_of.head rest (sym c.in-Some-head_of.ensures.head) c.if-head-id.false
    ∙ ends c.args.id c.args.reading.value c.args.reading.partial c.args.word rest c.requires (sym c.is_data.ensures ∙ c.if-is_data.false))

pub returns-in-None-head_of-clause-outcome : goal.returns-in-None-head_of-clause-outcome
returns-in-None-head_of-clause-outcome c rest =
    rw c.ended-in-None-head_of.ensures (other_none c.args.id c.args.reading.value c.args.word rest (sym c.in-None-head_of.ensures.head)
    ∙ ends c.args.id c.args.reading.value c.args.reading.partial c.args.word rest c.requires (sym c.is_data.ensures ∙ c.if-is_data.false))
