use Rattle.std.proofs.Common.{◌≡◌, ◌∙◌, sym, arith}
use Rattle.descriptor_parse.specs.Descriptor.{usage_list}
use Rattle.report_write.specs.Arrays.{names}
use Rattle.report_write.proofs.Firsts.{still_none, first_is}
use Rattle.report_write.proofs.Knowing.{none_under}
use Rattle.report_write.proofs.array.first_named.Goals as goal

pub loop-place-init : goal.loop-place-init
loop-place-init c =
    rw c.at_most-place.ensures (none_under (names c.args.declared.now.field (usage_list c.args.declared.now.ranges.now) c.args.bytes.now c.args.usage)
    c.args.declared.now.field.count c.args.from c.requires.from)

pub loop-place-preserved : goal.loop-place-preserved
loop-place-preserved c =
    still_none (names c.args.declared.now.field (usage_list c.args.declared.now.ranges.now) c.args.bytes.now c.args.usage) c.loop-place.place
    c.loop-place.invariant (sym c.is_named.ensures ∙ c.if-is_named.false)

pub returns-then-is_named-clause-place : goal.returns-then-is_named-clause-place
returns-then-is_named-clause-place c =
    sym (first_is (names c.args.declared.now.field (usage_list c.args.declared.now.ranges.now) c.args.bytes.now c.args.usage) c.loop-place.place
    c.args.declared.now.field.count c.loop-place.invariant (sym c.is_named.ensures ∙ c.if-is_named.true) (omega arith))

pub returns-clause-place : goal.returns-clause-place
returns-clause-place c =
    let all : c.loop-place.place ≡ c.args.declared.now.field.count = omega (arith, c.loop-place.auto.place-end, c.loop-place-test.false) in
    sym (rw all at c.loop-place.invariant)
