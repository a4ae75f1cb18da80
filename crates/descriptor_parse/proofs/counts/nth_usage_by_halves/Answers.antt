use Rattle.std.proofs.Common.{◌≡◌, arith, get_or, ◌∙◌}
use Rattle.std.proofs.lemmas.List.{get_or_default}
use Rattle.descriptor_parse.proofs.CountLemmas.{found_none, found_some}
use Rattle.descriptor_parse.proofs.counts.nth_usage_by_halves.Goals as goal

pub returns-in_err-last : goal.returns-in_err-last
returns-in_err-last c =
    c.from_residual.ensures
    ∙ found_none c.args.ranges.now c.args.counts.now c.range_of-place.result c.args.number c.requires c.range_of-place.ensures.within c.in_err-last.ensures.lookup.3 c.range_of-place.ensures.below

pub overflow_sub-result-3 : goal.overflow_sub-result-3
overflow_sub-result-3 c =
    let place = c.range_of-place.result in
    let within = c.in_ok-last.ensures.lookup.3.0 in
    let last : c.in_ok-last.field-0.now ≡ get_or c.args.ranges.now place (0, 0) = c.in_ok-last.ensures.lookup.1 ∙ get_or_default c.args.ranges.now place _ (0, 0) within in
    rw last (found_some c.args.ranges.now c.args.counts.now place c.args.number c.requires within c.range_of-place.ensures.below
    (c.range_of-place.ensures.above (omega (arith, c.requires.0)))).0

pub returns : goal.returns
returns c =
    let place = c.range_of-place.result in
    let within = c.in_ok-last.ensures.lookup.3.0 in
    let last : c.in_ok-last.field-0.now ≡ get_or c.args.ranges.now place (0, 0) = c.in_ok-last.ensures.lookup.1 ∙ get_or_default c.args.ranges.now place _ (0, 0) within in
    rw last (found_some c.args.ranges.now c.args.counts.now place c.args.number c.requires within c.range_of-place.ensures.below
    (c.range_of-place.ensures.above (omega (arith, c.requires.0)))).1
