use Rattle.std.proofs.Common.{◌<◌, sym, ◌∙◌, ap, ◌-◌}
use Rattle.std.specs.Prelude.{slice_get}
use Rattle.field_details.specs.representation.Around.{outer_in}
use Rattle.field_details.specs.representation.Asked.{all_outwards}
use Rattle.field_details.proofs.OutwardLemmas.{outwards_more, get_step, some_left}
use Rattle.field_details.proofs.around.outwards.Goals as goal

pub loop-next-preserved : goal.loop-next-preserved
loop-next-preserved c =
    let groups = c.args.groups.now in
    let n = c.in-Some.number in
    let left = c.loop-next.left in
    let some : 0 < left = some_left left c.if-left-eq0.false in
    ap (λ o. slice_get (all_outwards groups o) (left - 1)) c.outer-next.ensures
    ∙ sym (ap (λ o. slice_get (all_outwards groups o) left) c.in-Some.is ∙ ap (λ xs. slice_get xs left) (outwards_more groups n) ∙ get_step (all_outwards groups (outer_in groups n)) n left some)
    ∙ c.loop-next.invariant
