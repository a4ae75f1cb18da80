use Rattle.std.proofs.Common.{◌∙◌}
use Rattle.descriptor_parse.specs.Descriptor.{usage_list}
use Rattle.descriptor_parse.proofs.CountLemmas.{all_counted, place_within}
use Rattle.descriptor_parse.proofs.counts.place_usage.Goals as goal

pub returns : goal.returns
returns c =
    place_within c.args.field.now (usage_list c.args.ranges.now) c.args.place _ _ _ c.if-field.false c.if-place-field.false
    (c.all_usages.ensures ∙ all_counted c.args.ranges.now c.args.counts.now c.requires) (rw c.saturating_sub.ensures at c.min.ensures) c.nth_usage-2.ensures
