use Rattle.std.proofs.Common.{refl, arith}
use Rattle.field_values.proofs.Listing.{past_upto, one_past, all_past, is_first, count_over}
use Rattle.field_values.proofs.list.number_in.Goals as goal

pub loop-place-init : goal.loop-place-init
loop-place-init c = past_upto c.args.ranges.now c.args.usage c.args.from _ c.requires.without (omega arith) (omega arith)

pub overflow_sub-result : goal.overflow_sub-result
overflow_sub-result c =
    let over = count_over c.args.ranges.now c.args.counts.now c.args.usage c.loop-place.place c.requires.counts (omega arith) c.if-has.ensures.0 c.if-has.ensures.1 in
    omega arith

pub overflow_sub-result-then-has-2 : goal.overflow_sub-result-then-has-2
overflow_sub-result-then-has-2 c =
    let over = count_over c.args.ranges.now c.args.counts.now c.args.usage c.loop-place.place c.requires.counts (omega arith) c.if-has.ensures.0 c.if-has.ensures.1 in
    omega arith

pub returns-then-has : goal.returns-then-has
returns-then-has c =
    is_first c.args.ranges.now c.args.counts.now c.args.usage c.loop-place.place _ c.requires.counts (omega arith) c.if-has.ensures.0 c.if-has.ensures.1 refl c.loop-place.invariant

pub loop-place-preserved : goal.loop-place-preserved
loop-place-preserved c = one_past c.args.ranges.now c.args.usage c.loop-place.place (omega arith) c.if-has.ensures c.loop-place.invariant

pub returns : goal.returns
returns c = all_past c.args.ranges.now c.args.usage c.loop-place.place (omega arith) c.loop-place.invariant
