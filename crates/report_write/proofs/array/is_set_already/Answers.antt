use Rattle.std.proofs.Common.{◌≡◌, ◌∙◌, ◌&&◌, ap, sym, arith, ℕ, is_some}
use Rattle.descriptor_parse.specs.Descriptor.{usage_list}
use Rattle.report_write.specs.Arrays.{names}
use Rattle.report_write.specs.Puts.{is_set}
use Rattle.report_write.proofs.Firsts.{no_first, still_none, first_is, not_left, not_right, and_both}
use Rattle.report_write.proofs.array.is_set_already.Goals as goal
use Rattle.report_write.proofs.array.is_set_already.Goals.{else-is_named-via-then-is_named+else-is_set, else-is_named-via-else-is_named}

pub loop-place-init : goal.loop-place-init
loop-place-init c =
    let field = c.args.declared.now.field in
    let usages = usage_list c.args.declared.now.ranges.now in
    no_first (λ (place : ℕ). names field usages c.args.bytes.now c.args.usage place && is_set field c.args.marks.now place)

pub loop-place-preserved : goal.loop-place-preserved
loop-place-preserved c =
    let field = c.args.declared.now.field in
    let usages = usage_list c.args.declared.now.ranges.now in
    let named = names field usages c.args.bytes.now c.args.usage c.loop-place.place in
    let set = is_set field c.args.marks.now c.loop-place.place in
    still_none (λ (place : ℕ). names field usages c.args.bytes.now c.args.usage place && is_set field c.args.marks.now place) c.loop-place.place
    c.loop-place.invariant (elim c.else-is_named.branch [
      | else-is_named-via-then-is_named+else-is_set w ↦ not_right named set (sym w.is_set.ensures ∙ w.if-is_set.false)
      | else-is_named-via-else-is_named w ↦ not_left named set (sym c.is_named.ensures ∙ w.if-is_named.false)
    ])

pub returns-then-is_set : goal.returns-then-is_set
returns-then-is_set c =
    let field = c.args.declared.now.field in
    let usages = usage_list c.args.declared.now.ranges.now in
    let named = names field usages c.args.bytes.now c.args.usage c.loop-place.place in
    let set = is_set field c.args.marks.now c.loop-place.place in
    sym (ap is_some (first_is (λ (place : ℕ). names field usages c.args.bytes.now c.args.usage place && is_set field c.args.marks.now place) c.loop-place.place
    field.count c.loop-place.invariant (and_both named set (sym c.is_named.ensures ∙ c.if-is_named.true) (sym c.is_set.ensures ∙ c.if-is_set.true)) (omega arith)))

pub returns : goal.returns
returns c =
    let all : c.loop-place.place ≡ c.args.declared.now.field.count = omega (arith, c.loop-place.auto.place-end, c.loop-place-test.false) in
    sym (ap is_some (rw all at c.loop-place.invariant))
