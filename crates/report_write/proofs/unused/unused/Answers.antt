use Rattle.std.proofs.Common.{◌≡◌, ◌∙◌, ap, sym, Some, rules, to_z, of_z, w64}
use Rattle.descriptor_parse.specs.Descriptor.{usage_list}
use Rattle.report_write.proofs.UnusedNone.{takes_zero, takes_null, takes_past, takes_last, never_unused}
use Rattle.report_write.proofs.unused.unused.Goals as goal

pub returns-then-is_unused-clause-unused : goal.returns-then-is_unused-clause-unused
returns-then-is_unused-clause-unused c =
    takes_zero c.args.declared.now.field (usage_list c.args.declared.now.ranges.now) (sym c.is_unused.ensures ∙ c.if-is_unused.true)

pub returns-in-Some-clause-unused : goal.returns-in-Some-clause-unused
returns-in-Some-clause-unused c =
    let value : to_z w64 (of_z w64 c.in-Some.value) ≡ c.in-Some.value = search rules in
    ap Some value ∙ takes_null c.args.declared.now.field (usage_list c.args.declared.now.ranges.now) c.in-Some.value
    (sym c.is_unused.ensures ∙ c.if-is_unused.false) (sym c.in-Some.ensures.null)

pub returns-then-is_unused-2-clause-unused : goal.returns-then-is_unused-2-clause-unused
returns-then-is_unused-2-clause-unused c =
    let value : to_z w64 (of_z w64 c.past_list-past.result) ≡ c.past_list-past.result = search rules in
    takes_past c.args.declared.now.field (usage_list c.args.declared.now.ranges.now) _ (sym c.is_unused.ensures ∙ c.if-is_unused.false)
    (sym c.in_default.ensures.null) (value ∙ c.past_list-past.ensures) (sym c.is_unused-2.ensures ∙ c.if-is_unused-2.true)

pub returns-clause-unused : goal.returns-clause-unused
returns-clause-unused c =
    let value : to_z w64 (of_z w64 c.past_list-past.result) ≡ c.past_list-past.result = search rules in
    c.id_zero.ensures ∙ takes_last c.args.declared.now.field (usage_list c.args.declared.now.ranges.now) (to_z w64 (of_z w64 c.past_list-past.result))
    (sym c.is_unused.ensures ∙ c.if-is_unused.false) (sym c.in_default.ensures.null) (value ∙ c.past_list-past.ensures)
    (sym c.is_unused-2.ensures ∙ c.if-is_unused-2.false)

pub returns-clause-none : goal.returns-clause-none
returns-clause-none c = λ none.
    let value : to_z w64 (of_z w64 c.past_list-past.result) ≡ c.past_list-past.result = search rules in
    never_unused c.args.declared.now.field (usage_list c.args.declared.now.ranges.now) (to_z w64 (of_z w64 c.past_list-past.result))
    (value ∙ c.past_list-past.ensures) (sym c.is_unused.ensures ∙ c.if-is_unused.false) (c.null_of.ensures.none c.in_default.is)
    (sym c.is_unused-2.ensures ∙ c.if-is_unused-2.false) (sym c.id_zero.ensures ∙ none)
