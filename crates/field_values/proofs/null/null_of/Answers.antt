use Rattle.std.proofs.Common.{sym, ◌∙◌, rules}
use Rattle.field_values.proofs.NullLemmas.{third_null, no_null, never_null}
use Rattle.field_values.proofs.null.null_of.Goals as goal

pub returns-then-is_null_under-clause-null : goal.returns-then-is_null_under-clause-null
returns-then-is_null_under-clause-null c = third_null c.args.field.now _ (search rules)
    (sym c.is_null.ensures ∙ c.if-is_null.false) (sym c.is_null_over.ensures.same ∙ c.if-is_null_over.false) (sym c.is_null_under.ensures.same ∙ c.if-is_null_under.true)

pub returns-else-is_null_under-clause-null : goal.returns-else-is_null_under-clause-null
returns-else-is_null_under-clause-null c = no_null c.args.field.now
    (sym c.is_null.ensures ∙ c.if-is_null.false) (sym c.is_null_over.ensures.same ∙ c.if-is_null_over.false) (sym c.is_null_under.ensures.same ∙ c.if-is_null_under.false)

pub returns-else-is_null_under-clause-none : goal.returns-else-is_null_under-clause-none
returns-else-is_null_under-clause-none c = λ _ v. never_null c.args.field.now
    (sym c.is_null.ensures ∙ c.if-is_null.false) (sym c.is_null_over.ensures.same ∙ c.if-is_null_over.false) (sym c.is_null_under.ensures.same ∙ c.if-is_null_under.false) v

pub returns-then-is_null_over-clause-null : goal.returns-then-is_null_over-clause-null
returns-then-is_null_over-clause-null c = search rules
