use Rattle.std.proofs.Common.{◌≡◌, ◌≤◌, length, map, drop}
use Rattle.descriptor_parse.specs.declared.totals.IdReports.{IdReports}
use Rattle.descriptor_parse.specs.representation.Linked.{ends_of, HaveNext, HasFirst}
use Rattle.descriptor_parse.proofs.reports.Reports.link.Given as goal

-- the fields from a place on are tied together
abbrev pub invariant-loop-place : goal.invariant-loop-place
invariant-loop-place l = record {
  within : l.place ≤ length l.initial.self.fields.items;
  fields : l.self.fields.items ≡ l.initial.self.fields.items;
  first : HasFirst l.self.totals l.place (drop l.place l.initial.self.fields.items);
  nexts : HaveNext l.place l.initial.self.fields.items l.self.links.items;
  bits : map (λ (r : IdReports). r.bits) l.self.totals.by_id.items ≡ map (λ (r : IdReports). r.bits) l.initial.self.totals.by_id.items;
  ids : length l.self.totals.by_id.items ≡ length l.initial.self.totals.by_id.items;
  ends : ends_of l.self.links.items ≡ ends_of l.initial.self.links.items;
  as_many : length l.self.links.items ≡ length l.initial.self.links.items;
  ranges : l.self.ranges.items ≡ l.initial.self.ranges.items;
  counts : l.self.counts.items ≡ l.initial.self.counts.items;
  has_ids : l.self.has_ids ≡ l.initial.self.has_ids;
}

abbrev pub decreases-loop-place : goal.decreases-loop-place
decreases-loop-place l = l.place
