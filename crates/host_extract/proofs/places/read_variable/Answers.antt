use Rattle.std.proofs.Common.{◌≡◌, ◌++◌, refl, ◌∙◌, ap, to_z, of_z, w64, rules}
use Rattle.descriptor_parse.specs.Descriptor.{usage_list}
use Rattle.host_extract.proofs.FieldLemmas.{none-first, one-more, variable-place, serving-step}
use Rattle.host_extract.proofs.places.read_variable.Goals as goal

pub loop-place-init : goal.loop-place-init
loop-place-init c = record {
  left = c.usages-usages.ensures;
  serving = refl;
  items = none-first _ _ c.args.declared.now.field (usage_list c.args.declared.now.ranges.now) c.args.bytes.now refl;
}

pub loop-place-preserved : goal.loop-place-preserved
loop-place-preserved c =
    let f = c.args.declared.now.field in
    let us = usage_list c.args.declared.now.ranges.now in
    let bytes = c.args.bytes.now in
    let place = c.loop-place.place in
    let i = c.loop-place.invariant in
    let (left, serving) = serving-step us c.loop-place.usages c.next.new.self place c.next.result c.loop-place.serving i.left c.next.ensures.steps i.serving in
    let v = c.value_at-value.result in
    let same : to_z w64 (of_z w64 v) ≡ v = search rules in
    let read = variable-place f us bytes place (to_z w64 (of_z w64 v)) c.or-serving.result c.requires.variable c.loop-place-test.true
    (same ∙ c.value_at-value.ensures) (c.or-serving.ensures ∙ serving) in
    record {
      left = left;
      serving = c.or-serving.ensures ∙ serving;
      items = one-more _ _ _ f us bytes place i.items (c.in_ok-push_named.ensures ∙ ap (λ xs. c.loop-place.out.items ++ xs) read);
    }
