use Rattle.std.proofs.Common.{◌≡◌, ◌+◌, ◌≤◌, ◌∙◌, ap, length, arith}
use Rattle.field_details.specs.representation.Around.{outer_in}
use Rattle.field_details.specs.representation.Asked.{all_outwards}
use Rattle.field_details.proofs.OutwardLemmas.{outwards_more, depth_few}
use Rattle.field_details.proofs.around.depth.Goals as goal

pub overflow_sub-left : goal.overflow_sub-left
overflow_sub-left c =
    let groups = c.args.groups.now in
    let n = c.in-Some.number in
    let more : length (all_outwards groups c.loop-next.next) ≡ length (all_outwards groups (outer_in groups n)) + 1 =
    ap (λ o. length (all_outwards groups o)) c.in-Some.is ∙ ap length (outwards_more groups n) ∙ omega arith in
    let few : length (all_outwards groups c.args.inner) ≤ length groups + 1 = depth_few groups c.args.inner in
    omega (arith, c.loop-next.invariant, more, few)

pub loop-next-preserved : goal.loop-next-preserved
loop-next-preserved c =
    let groups = c.args.groups.now in
    let n = c.in-Some.number in
    let more : length (all_outwards groups c.loop-next.next) ≡ length (all_outwards groups (outer_in groups n)) + 1 =
    ap (λ o. length (all_outwards groups o)) c.in-Some.is ∙ ap length (outwards_more groups n) ∙ omega arith in
    let few : length (all_outwards groups c.args.inner) ≤ length groups + 1 = depth_few groups c.args.inner in
    let next : length (all_outwards groups c.outer-next.result) ≡ length (all_outwards groups (outer_in groups n)) = ap (λ o. length (all_outwards groups o)) c.outer-next.ensures in
    omega (arith, c.loop-next.invariant, more, few, next)
