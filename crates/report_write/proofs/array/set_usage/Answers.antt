use Rattle.std.proofs.Common.{◌≡◌, ◌∙◌, sym, ap, rules, to_z, of_z, w64}
use Rattle.std.specs.Prelude.{pos}
use Rattle.std.proofs.lemmas.Result.{IfOk-weaker}
use Rattle.descriptor_parse.specs.Descriptor.{ranges_at, usage_list}
use Rattle.report_write.proofs.Knowing.{off_taken, off_set}
use Rattle.report_write.proofs.array.set_usage.Goals as goal

pub returns-then-value-eq0-clause-taken : goal.returns-then-value-eq0-clause-taken
returns-then-value-eq0-clause-taken c =
    let back : to_z w64 (of_z w64 c.in-Value.value) ≡ c.in-Value.value = search rules in
    let none : c.in-Value.value ≡ pos 0 = sym back ∙ ap (to_z w64) c.if-value-eq0.true in
    IfOk-weaker c.take_out.result _ _ (λ _ t. off_taken c.args.kept.now.field (usage_list (ranges_at c.args.descriptor.now c.args.kept.now.number))
    c.args.bytes.now c.args.marks.now c.args.usage c.args.number c.args.asked c.in-Value.value c.in-Value.is none t)
    (rw (c.usages_of-declared.ensures.field, c.usages_of-declared.ensures.ranges) at c.take_out.ensures.taken)

pub returns-then-value-eq0-clause-set : goal.returns-then-value-eq0-clause-set
returns-then-value-eq0-clause-set c =
    let back : to_z w64 (of_z w64 c.in-Value.value) ≡ c.in-Value.value = search rules in
    let none : c.in-Value.value ≡ pos 0 = sym back ∙ ap (to_z w64) c.if-value-eq0.true in
    IfOk-weaker c.take_out.result _ _ (λ _ s. off_set c.args.descriptor.now c.args.kept.now c.args.usage c.args.asked c.in-Value.value
    c.args.bytes.now c.take_out.new.bytes c.args.marks.now c.take_out.new.marks c.in-Value.is none s)
    (rw (c.usages_of-declared.ensures.field, c.usages_of-declared.ensures.ranges) at c.take_out.ensures.set)
