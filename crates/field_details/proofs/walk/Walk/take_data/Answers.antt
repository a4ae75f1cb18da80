use Rattle.std.proofs.Common.{◌≡◌, refl, length, arith, ◌++◌, ◌∷◌, [], ◌∙◌, ap, sym, true, false}
use Rattle.descriptor_parse.specs.Fields.{takes_bit}
use Rattle.descriptor_parse.specs.representation.ReportsRefine.{fills}
use Rattle.field_details.specs.Details.{has_place}
use Rattle.field_details.proofs.WalkLemmas.{refine_placed, refine_empty}
use Rattle.field_details.proofs.walk.Walk.take_data.Goals as goal

pub returns-then-not-fills : goal.returns-then-not-fills
returns-then-not-fills c = λ items item e offset flags st s.
    let empty : takes_bit items ≡ false = sym (ap fills (c.globals.ensures items st)) ∙ sym c.fills.ensures ∙ c.if-not-fills.true in
    let w = c.end_locals.ensures.same in
    refine_empty items item c.args.kind c.args.self.now _ e empty (ap (λ v. v.extents) w) c.end_locals.ensures.usage (ap (λ v. v.opened) w) (ap (λ v. v.reported) w) c.end_locals.ensures.pending s

pub returns : goal.returns
returns c = λ items item e offset flags st s.
    let some : takes_bit items ≡ true = sym (ap fills (c.globals.ensures items st)) ∙ sym c.fills.ensures ∙ c.if-not-fills.false in
    let has : has_place items item ≡ true = rw (e, some) refl in
    let len : c.len-place.result ≡ length c.args.self.now.reported.fields.items = omega (arith, c.len-place.ensures) in
    let names = c.in_ok-name_field.ensures items item has (len ∙ ap length s.fields) s.pending s.names in
    let w = c.end_locals-2.ensures.same in
    refine_placed items item c.args.kind c.args.self.now _ e some (ap (λ v. v.extents) w) c.end_locals-2.ensures.usage (ap (λ v. v.opened) w)
    (ap (λ v. v.reported.fields.items) w ∙ c.in_ok-push.ensures.items ∙ ap (λ x. c.args.self.now.reported.fields.items ++ x ∷ []) (c.detail-detail.ensures items item e offset flags st s))
    (ap (λ v. v.reported.collections) w) c.end_locals-2.ensures.pending (rw (ap (λ v. v.reported.names) w) names) s
