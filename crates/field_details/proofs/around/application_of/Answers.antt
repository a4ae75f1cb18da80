use Rattle.std.proofs.Common.{sym, ◌∙◌, ap, cond, Some}
use Rattle.std.specs.Prelude.{find}
use Rattle.field_details.specs.Around.{is_application}
use Rattle.field_details.specs.representation.Around.{outer_in}
use Rattle.field_details.specs.representation.Asked.{all_outwards}
use Rattle.field_details.proofs.OutwardLemmas.{outwards_more}
use Rattle.field_details.proofs.around.application_of.Goals as goal

pub loop-next-preserved : goal.loop-next-preserved
loop-next-preserved c =
    let groups = c.args.groups.now in
    let n = c.in-Some.number in
    let more = find (is_application groups) (all_outwards groups (outer_in groups n)) in
    let fail = sym c.is_application.ensures ∙ c.if-is_application.false in
    let old = ap (λ o. find (is_application groups) (all_outwards groups o)) c.in-Some.is in
    ap (λ o. find (is_application groups) (all_outwards groups o)) c.outer-next.ensures
    ∙ sym (old ∙ ap (find (is_application groups)) (outwards_more groups n) ∙ ap (λ b. cond b (Some n) more) fail)
    ∙ c.loop-next.invariant
