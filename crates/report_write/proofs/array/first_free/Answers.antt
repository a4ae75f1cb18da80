use Rattle.std.proofs.Common.{◌≡◌, ◌∙◌, sym, arith}
use Rattle.descriptor_parse.specs.Descriptor.{usage_list}
use Rattle.report_write.specs.Arrays.{is_free}
use Rattle.report_write.proofs.Firsts.{still_none, first_is}
use Rattle.report_write.proofs.Knowing.{none_taken}
use Rattle.report_write.proofs.array.first_free.Goals as goal

pub loop-place-init : goal.loop-place-init
loop-place-init c =
    rw c.min-place.ensures (none_taken (is_free c.args.declared.now.field (usage_list c.args.declared.now.ranges.now) c.args.bytes.now c.args.marks.now)
    c.args.declared.now.field.count c.args.from c.requires.from)

pub loop-place-preserved : goal.loop-place-preserved
loop-place-preserved c =
    still_none (is_free c.args.declared.now.field (usage_list c.args.declared.now.ranges.now) c.args.bytes.now c.args.marks.now) c.loop-place.place
    c.loop-place.invariant (sym c.is_free.ensures ∙ c.if-is_free.false)

pub returns-then-is_free-clause-place : goal.returns-then-is_free-clause-place
returns-then-is_free-clause-place c =
    sym (first_is (is_free c.args.declared.now.field (usage_list c.args.declared.now.ranges.now) c.args.bytes.now c.args.marks.now) c.loop-place.place
    c.args.declared.now.field.count c.loop-place.invariant (sym c.is_free.ensures ∙ c.if-is_free.true) (omega arith))

pub returns-clause-place : goal.returns-clause-place
returns-clause-place c =
    let all : c.loop-place.place ≡ c.args.declared.now.field.count = omega (arith, c.loop-place.auto.place-end, c.loop-place-test.false) in
    sym (rw all at c.loop-place.invariant)

pub returns-then-is_free-clause-before : goal.returns-then-is_free-clause-before
returns-then-is_free-clause-before c = c.loop-place.invariant
