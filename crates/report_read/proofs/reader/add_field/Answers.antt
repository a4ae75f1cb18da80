use Rattle.std.proofs.Common.{◌≡◌, ◌<◌, ◌∙◌, refl, sym, ap, subst, arith, length, get_or}
use Rattle.std.proofs.lemmas.Option.{slice_get_read}
use Rattle.std.proofs.lemmas.Result.{IfOk-weaker}
use Rattle.descriptor_parse.specs.declared.field.Field.{Field}
use Rattle.report_write.specs.declared.kept.Kept.{Kept}
use Rattle.report_write.specs.Fields.{kept}
use Rattle.report_read.specs.declared.reader.Plans.{Plans}
use Rattle.report_read.specs.representation.Plans.{IsAdded}
use Rattle.report_read.proofs.Rows.{field_added}
use Rattle.report_read.proofs.reader.add_field.Goals as goal

pub returns-clause-filled : goal.returns-clause-filled
returns-clause-filled c =
    let d = c.args.descriptor.now in
    let field : Field = c.kept_at-kept.result.field in
    let is : c.kept_at-kept.result ≡ kept c.args.null_states.now c.args.number (get_or d.fields c.args.number field) = c.kept_at-kept.ensures.kept field in
    let same : field ≡ get_or d.fields c.args.number field = ap (λ (one : Kept). one.field) is in
    let few : field.id < length c.args.by_id.now = subst (λ (one : Field). one.id < length c.args.by_id.now) (sym same) (c.requires.all c.args.number field c.requires.there) in
    let own = c.new-lane.ensures.kept ∙ is ∙ ap (λ (one : Field). kept c.args.null_states.now c.args.number one) (sym same) in
    let before : get_or c.args.by_id.now field.id c.index-by_id-kept.result ≡ c.index-by_id-kept.result = grind (arith, c.index-by_id-kept.is) in
    IfOk-weaker c.push_lane.result _ _ (λ _ added. field_added d c.args.null_states.now c.args.number field c.new-lane.result c.args.by_id.now _ c.index-by_id-kept.result c.push_lane.new.plans
    (slice_get_read d.fields (length d.fields) c.args.number field refl c.requires.there same) few own c.new-lane.ensures.lane refl before
    (subst (λ (one : Plans). IsAdded field.kind c.new-lane.result one c.push_lane.new.plans) before added) c.requires.filled) c.push_lane.ensures
