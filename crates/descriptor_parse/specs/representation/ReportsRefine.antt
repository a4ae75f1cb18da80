-- Representation: the fields and reports that are kept refine the items before.
use Rattle.std.specs.Prelude.{◌≡◌, ℕ, ◌+◌, ◌≤◌, ◌<◌, All, ◌*◌, ◌/◌, ◌%◌, ◌^◌, ◌==◌, nat_lt, Bool, true, false, ◌&&◌, if◌then◌else◌, List, [], ◌∷◌, ◌++◌, length, map}
use Rattle.descriptor_parse.specs.declared.field.Kind.{Kind}
use Rattle.descriptor_parse.specs.declared.field.Field.{Field}
use Rattle.descriptor_parse.specs.declared.globals.Globals.{Globals}
use Rattle.descriptor_parse.specs.declared.reports.Reports.{Reports}
use Rattle.descriptor_parse.specs.Items.{ItemValue}
use Rattle.descriptor_parse.specs.Globals.{report_size, report_count}
use Rattle.descriptor_parse.specs.Fields.{is_constant, fields, field_usages, report_bits, has_report_id, has_bare_data}
use Rattle.descriptor_parse.specs.declared.locals.Locals.{Locals}
use Rattle.descriptor_parse.specs.representation.GlobalsOf.{max_of}
use Rattle.descriptor_parse.specs.representation.LocalsRefine.{range_on}
use Rattle.descriptor_parse.specs.representation.Totals.{bits_in, first_in, no_field}
use Rattle.descriptor_parse.specs.representation.Linked.{ends_of}
use Rattle.descriptor_parse.specs.representation.Parts.{parts, AreEnds}
use Rattle.descriptor_parse.specs.representation.CountsRefine.{wrapped_counts, AreWrapped}

-- a data item under these Globals takes a bit
abbrev pub fills : Globals → Bool
fills g = nat_lt 0 g.size && nat_lt 0 g.count

abbrev pub declares : ℕ → Globals → Bool
declares flags g = flags % 2 == 0 && fills g

abbrev pub field_by : Kind → ℕ → ℕ → Globals → Field
field_by kind bit flags g = record {
  kind = kind;
  id = g.id;
  bit = bit;
  size = g.size;
  count = g.count;
  min = g.min;
  max = max_of g;
  array = flags / 2 % 2 == 0;
}

-- A field more, from a bit on, and its usages, if a data item declares one; nothing else changes.
pub record Declares (kind : Kind) (bit flags : ℕ) (g : Globals) (locals : Locals) (old new : Reports) : Type 0 where
  pub fields : (declares flags g ≡ true → (g.size ≤ 32) × (g.count ≤ 1024)) → new.fields.items
      ≡ (if declares flags g then old.fields.items ++ field_by kind bit flags g ∷ [] else old.fields.items)
  pub ranges : new.ranges.items ≡ (if declares flags g then old.ranges.items ++ map (range_on g.page) locals.usages.items else old.ranges.items)
  pub ends : ends_of new.links.items ≡ (if declares flags g then ends_of old.links.items ++ (length old.ranges.items + length locals.usages.items) ∷ [] else ends_of old.links.items)
  pub counts : new.counts.items ≡ (if declares flags g then old.counts.items ++ wrapped_counts 0 (map (range_on g.page) locals.usages.items) else old.counts.items)
  pub totals : new.totals ≡ old.totals
  pub has_ids : new.has_ids ≡ old.has_ids
  pub has_bare : new.has_bare ≡ old.has_bare

-- a data item within the limits
pub record FitsData (before : List ItemValue) (item : ItemValue) : Type 0 where
  pub size : report_size before ≤ 1024
  pub field_size : is_constant item ≡ false → report_size before ≤ 32
  pub count : report_count before ≤ 1024

-- the fields can be tied together: none is yet, and the table has their IDs
pub record CanLink (reports : Reports) : Type 0 where
  pub few : length reports.fields.items ≤ 256
  pub as_many : length reports.links.items ≡ length reports.fields.items
  pub ids : All (λ f. f.id < length reports.totals.by_id.items) reports.fields.items
  pub unlinked : (kind : Kind) (id : ℕ) → first_in reports.totals kind id ≡ no_field

pub record ReportsRefine (before : List ItemValue) (reports : Reports) : Type 0 where
  pub bits : (kind : Kind) (id : ℕ) → bits_in reports.totals kind id ≡ report_bits kind id before
  pub small : (kind : Kind) (id : ℕ) → report_bits kind id before ≤ 2 ^ 20 * length before
  pub fields : reports.fields.items ≡ fields before
  pub unlinked : (kind : Kind) (id : ℕ) → first_in reports.totals kind id ≡ no_field
  pub ends : AreEnds 0 (ends_of reports.links.items) (length reports.ranges.items)
  pub ranges : parts (ends_of reports.links.items) reports.ranges.items ≡ field_usages before
  pub as_many_counts : length reports.counts.items ≡ length reports.ranges.items
  pub counts : AreWrapped 0 (ends_of reports.links.items) reports.ranges.items reports.counts.items
  pub has_ids : reports.has_ids ≡ has_report_id before
  pub has_bare : reports.has_bare ≡ has_bare_data before
