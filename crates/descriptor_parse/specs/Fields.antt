-- Trusted: the fields that a text declares.
use Rattle.std.specs.Prelude.{ℕ, ◌+◌, ◌-◌, ◌*◌, ◌/◌, ◌%◌, ◌==◌, if◌then◌else◌, nat_lt, Bool, true, false, not, ◌&&◌, List, [], ◌∷◌, ◌++◌, length, filter}
use Rattle.std.specs.List.{list_any}
use Rattle.descriptor_parse.specs.declared.field.Kind.{Kind}
use Rattle.descriptor_parse.specs.declared.field.Kind.TheVariants.{Input}
use Rattle.descriptor_parse.specs.declared.field.Field.{Field}
use Rattle.descriptor_parse.specs.declared.tag.Tag.{Tag}
use Rattle.descriptor_parse.specs.declared.tag.Tag.TheVariants.{Main}
use Rattle.descriptor_parse.specs.declared.tag.MainTag.TheVariants.{Data}
use Rattle.descriptor_parse.specs.Items.{ItemValue}
use Rattle.descriptor_parse.specs.Tags.{tag, is_data, is_data_of, is_report_id, is_collection, is_end_collection}
use Rattle.descriptor_parse.specs.Globals.{unsigned, usage_page, report_size, report_count, report_id, logical_minimum, logical_maximum}
use Rattle.descriptor_parse.specs.Locals.{usages_since_main}

-- Bit 0 of a data item's data says Constant, bit 1 Variable (HID 1.11, 6.2.2.5).
abbrev pub is_constant : ItemValue → Bool
is_constant item = unsigned item.bytes % 2 == 1

abbrev pub is_array : ItemValue → Bool
is_array item = unsigned item.bytes / 2 % 2 == 0

-- The bits of a report that the data items of its kind and ID take.
unfoldable pub report_bits : Kind → ℕ → List ItemValue → ℕ
report_bits kind id [] = 0
report_bits kind id (item ∷ before) =
    if is_data_of kind (tag item) && report_id before == id
    then report_bits kind id before + report_size before * report_count before
    else report_bits kind id before

-- a data item after these takes a bit
abbrev pub takes_bit : List ItemValue → Bool
takes_bit before = nat_lt 0 (report_size before) && nat_lt 0 (report_count before)

-- A data item that is not Constant and takes a bit declares a field.
abbrev pub is_field : List ItemValue → ItemValue → Bool
is_field before item = is_data (tag item) && (not (is_constant item) && takes_bit before)

abbrev pub kind_of : Tag → Kind
kind_of (Main (Data kind)) = kind
kind_of _ = Input

abbrev pub declared_field : List ItemValue → ItemValue → Field
declared_field before item = record {
  kind = kind_of (tag item);
  id = report_id before;
  bit = report_bits (kind_of (tag item)) (report_id before) before;
  size = report_size before;
  count = report_count before;
  min = logical_minimum before;
  max = logical_maximum before;
  array = is_array item;
}

-- the fields in order of declaration
unfoldable pub fields : List ItemValue → List Field
fields [] = []
fields (item ∷ before) = if is_field before item then fields before ++ declared_field before item ∷ [] else fields before

-- the usages of each, as ranges
unfoldable pub field_usages : List ItemValue → List (List (ℕ × ℕ))
field_usages [] = []
field_usages (item ∷ before) =
    if is_field before item then field_usages before ++ usages_since_main (usage_page before) before ∷ [] else field_usages before

abbrev pub has_report_id : List ItemValue → Bool
has_report_id before = list_any (λ item. is_report_id (tag item)) before

-- a data item without a Report ID in force
unfoldable pub has_bare_data : List ItemValue → Bool
has_bare_data [] = false
has_bare_data (item ∷ before) = if is_data (tag item) && report_id before == 0 then true else has_bare_data before

-- the collections that are open
abbrev pub open_collections : List ItemValue → ℕ
open_collections before = length (filter (λ item. is_collection (tag item)) before) - length (filter (λ item. is_end_collection (tag item)) before)
