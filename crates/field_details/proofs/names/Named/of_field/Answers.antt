use Rattle.std.proofs.Common.{◌∙◌}
use Rattle.descriptor_parse.specs.Faults.{all_items}
use Rattle.field_details.specs.Details.{has_place}
use Rattle.field_details.specs.representation.Named.{names_given}
use Rattle.field_details.proofs.NameLemmas.{field_names_are}
use Rattle.field_details.proofs.names.Named.of_field.Goals as goal

pub returns : goal.returns
returns c = λ naming text r.
    c.ranges_at.ensures (names_given has_place naming (all_items text)) (rw (c.deref.ensures.value, c.deref-2.ensures.value) r.fields) ∙ field_names_are naming text c.args.place
