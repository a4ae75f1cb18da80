use Rattle.std.proofs.Common.{◌≡◌, ◌++◌, ◌∷◌, [], ◌∙◌, ap, length, arith}
use Rattle.descriptor_parse.specs.Tags.{is_collection}
use Rattle.field_details.specs.Collections.{declared_collection}
use Rattle.field_details.proofs.WalkLemmas.{refine_opened}
use Rattle.field_details.proofs.walk.Walk.open_collection.Goals as goal

pub returns : goal.returns
returns c = λ items item e offset kind st s.
    let is : c.collection-collection.result ≡ declared_collection items item = c.collection-collection.ensures items item offset kind st s in
    let number : c.len-number.result ≡ length c.args.self.now.reported.collections.items = omega (arith, c.len-number.ensures) in
    let names = c.in_ok-name_collection.ensures items item (ap is_collection e) (number ∙ ap length s.groups) s.pending s.names in
    let w = c.end_locals.ensures.same in
    refine_opened items item c.args.self.now _ e (ap (λ v. v.extents) w) c.end_locals.ensures.usage
    (ap (λ v. v.opened.items) w ∙ c.in_ok-push.ensures.items ∙ ap (λ n. c.args.self.now.opened.items ++ n ∷ []) number) (ap (λ v. v.reported.fields) w)
    (ap (λ v. v.reported.collections.items) w ∙ c.in_ok-push-2.ensures.items ∙ ap (λ x. c.args.self.now.reported.collections.items ++ x ∷ []) is)
    c.end_locals.ensures.pending (rw (ap (λ v. v.reported.names) w) names) s
