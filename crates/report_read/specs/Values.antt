-- Trusted: the values of a report (HID 1.11, 5.6, 5.8, 5.10 and 6.2.2.5).
use Rattle.shapes.specs.Shapes.{Bytes}
use Rattle.std.specs.Prelude.{ℕ, List, map, drop, flat_map, unwrap_or}
use Rattle.descriptor_parse.specs.declared.field.Kind.{Kind}
use Rattle.descriptor_parse.specs.Descriptor.{DescriptorValue, ranges_at, usage_list, count_up, report_len}
use Rattle.host_extract.specs.Found.{value_at, id_of, bytes_of}
use Rattle.field_details.specs.declared.details.Details.{Details}
use Rattle.field_values.specs.Values.{where_is, usage_read}
use Rattle.report_write.specs.declared.kept.Kept.{Kept}
use Rattle.report_write.specs.Fields.{kept_fields}
use Rattle.report_read.specs.declared.value.Value.{Value}
use Rattle.report_read.specs.Items.{null_states_of}

-- a kept reader: its descriptor, with the details
pub record ReaderValue : Type 0 where
  pub descriptor : DescriptorValue
  pub details : Details

-- a reading: the ID of the report, the bytes past its end, and the values that are left
pub record ReadingValue : Type 0 where
  pub id : ℕ
  pub rest : Bytes
  pub left : List Value

-- the value of a place of a field
abbrev pub value_of : DescriptorValue → Bytes → Kept → ℕ → Value
value_of d bytes kept place = record {
  field = kept.number;
  place = place;
  usage = usage_read kept.field (usage_list (ranges_at d kept.number)) place (value_at kept.field bytes place);
  raw = value_at kept.field bytes place;
  within = where_is kept.field kept.null_state (value_at kept.field bytes place);
}

-- those of a field, in the order of its places
abbrev pub values_of_field : DescriptorValue → Bytes → Kept → List Value
values_of_field d bytes kept = map (value_of d bytes kept) (count_up 0 kept.field.count)

-- those of a report of a kind and ID, in the order of its fields
abbrev pub values_of : ReaderValue → Kind → ℕ → Bytes → List Value
values_of reader kind id bytes = flat_map (values_of_field reader.descriptor bytes) (kept_fields reader.descriptor (null_states_of reader.details.fields.items) kind id)

-- what is read of a report
unfoldable pub reading : ReaderValue → Kind → Bytes → ReadingValue
reading reader kind report = record {
  id = id_of reader.descriptor report;
  rest = drop (unwrap_or (report_len reader.descriptor kind (id_of reader.descriptor report)) 0) report;
  left = values_of reader kind (id_of reader.descriptor report) (bytes_of reader.descriptor report);
}
