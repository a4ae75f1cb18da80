use Rattle.std.proofs.Common.{◌≡◌, ◌++◌, refl, ◌∙◌, ap, to_z, of_z, w64, rules}
use Rattle.descriptor_parse.specs.Descriptor.{usage_list}
use Rattle.host_extract.proofs.FieldLemmas.{none-first, one-more, array-place}
use Rattle.host_extract.proofs.places.read_array.Goals as goal

pub loop-place-init : goal.loop-place-init
loop-place-init c = none-first _ _ c.args.declared.now.field (usage_list c.args.declared.now.ranges.now) c.args.bytes.now refl

pub loop-place-preserved : goal.loop-place-preserved
loop-place-preserved c =
    let f = c.args.declared.now.field in
    let us = usage_list c.args.declared.now.ranges.now in
    let bytes = c.args.bytes.now in
    let place = c.loop-place.place in
    let v = c.value_in_array-value.result in
    let same : to_z w64 (of_z w64 v) ≡ v = search rules in
    let read = array-place f us bytes place (to_z w64 (of_z w64 v)) c.usage_by_value-usage.result c.requires.array
    (same ∙ c.value_in_array-value.ensures) c.usage_by_value-usage.ensures.reads in
    one-more _ _ _ f us bytes place c.loop-place.invariant (c.in_ok-push_named.ensures ∙ ap (λ xs. c.loop-place.out.items ++ xs) read)
