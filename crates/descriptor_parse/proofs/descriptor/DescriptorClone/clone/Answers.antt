use Rattle.std.proofs.Common.{rules, ◌≡◌}
use Rattle.std.proofs.lemmas.List.Elements.{same_from_all_zip}
use Rattle.descriptor_parse.specs.declared.reports.Reports.{Reports}
use Rattle.descriptor_parse.proofs.descriptor.DescriptorClone.clone.Goals as goal

-- what the view and the invariant read is the same in both
record AreAlike (copy reports : Reports) : Type 0 where
  fields : copy.fields.items ≡ reports.fields.items
  links : copy.links.items ≡ reports.links.items
  ranges : copy.ranges.items ≡ reports.ranges.items
  counts : copy.counts.items ≡ reports.counts.items
  totals : copy.totals.by_id.items ≡ reports.totals.by_id.items
  ids : copy.has_ids ≡ reports.has_ids

alike : (c : goal.In_ok-reports) → AreAlike c.in_ok-reports.reports c.self.inside.reports
alike c = record {
  fields = search (rules, same_from_all_zip);
  links = search (rules, same_from_all_zip);
  ranges = search (rules, same_from_all_zip);
  counts = search (rules, same_from_all_zip);
  totals = search (rules, same_from_all_zip);
  ids = search rules;
}

pub invariant_of-result : goal.invariant_of-result
invariant_of-result c =
    let same = alike c in
    rw (same.fields, same.links, same.ranges, same.counts, same.totals, same.ids) c.self.invariant

pub returns : goal.returns
returns c =
    let same = alike c in
    record { cases = rw (same.fields, same.links, same.ranges, same.totals, same.ids) c.self.view_is }
