-- Representation: what the code's reports refine.
use Rattle.std.specs.Prelude.{map}
use Rattle.descriptor_parse.specs.declared.reports.Reports.{Reports}
use Rattle.descriptor_parse.specs.Descriptor.{DescriptorValue}
use Rattle.descriptor_parse.specs.representation.Parts.{parts}
use Rattle.descriptor_parse.specs.representation.Linked.{ends_of}

-- the descriptor that the reports of the code make
abbrev pub value_of : Reports → DescriptorValue
value_of reports = record {
  fields = reports.fields.items;
  ranges = parts (ends_of reports.links.items) reports.ranges.items;
  uses_ids = reports.has_ids;
  totals = map (λ r. r.bits) reports.totals.by_id.items;
}
