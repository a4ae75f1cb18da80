-- Trusted: the data items of a text with all that the items before say of them.
use Rattle.std.specs.Prelude.{◌-◌, ◌^◌, min, if◌then◌else◌, Bool, ◌&&◌, List, [], ◌∷◌, ◌++◌}
use Rattle.descriptor_parse.specs.Items.{ItemValue}
use Rattle.descriptor_parse.specs.Tags.{tag, is_data}
use Rattle.descriptor_parse.specs.Globals.{unsigned, report_size, report_count, report_id, logical_minimum, logical_maximum}
use Rattle.descriptor_parse.specs.Fields.{report_bits, takes_bit, kind_of}
use Rattle.field_details.specs.declared.detail.Detail.{Detail}
use Rattle.field_details.specs.Extents.{physical_minimum, physical_maximum, unit_exponent, unit_digits}
use Rattle.field_details.specs.Collections.{innermost, open_now}

-- a data item, Constant or not, that takes a bit
abbrev pub has_place : List ItemValue → ItemValue → Bool
has_place before item = is_data (tag item) && takes_bit before

-- What is declared by it (HID 1.11, 6.2.2.4 to 6.2.2.7). Its first bit comes after those of the items before it in its
-- report, as far as 64 bits count; no text that parses comes near.
abbrev pub declared_detail : List ItemValue → ItemValue → Detail
declared_detail before item = record {
  offset = item.offset;
  kind = kind_of (tag item);
  flags = unsigned item.bytes;
  id = report_id before;
  bit = min (2 ^ 64 - 1) (report_bits (kind_of (tag item)) (report_id before) before);
  size = report_size before;
  count = report_count before;
  min = logical_minimum before;
  max = logical_maximum before;
  physical_min = physical_minimum before;
  physical_max = physical_maximum before;
  unit = unit_digits before;
  exponent = unit_exponent before;
  inside = innermost (open_now before);
}

-- those of all data items that take a bit, in order of declaration
unfoldable pub details : List ItemValue → List Detail
details [] = []
details (item ∷ before) = if has_place before item then details before ++ declared_detail before item ∷ [] else details before
