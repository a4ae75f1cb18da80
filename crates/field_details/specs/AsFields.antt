-- Trusted: the fields of the parser among the data items that are reported.
use Rattle.std.specs.Prelude.{◌-◌, ◌/◌, ◌%◌, ◌^◌, ◌==◌, min, not, Bool}
use Rattle.descriptor_parse.specs.declared.field.Field.{Field}
use Rattle.field_details.specs.declared.detail.Detail.{Detail}

-- a data item that is not Constant
abbrev pub is_of_data : Detail → Bool
is_of_data detail = not (detail.flags % 2 == 1)

-- the field of the parser that it is
abbrev pub field_of : Detail → Field
field_of detail = record {
  kind = detail.kind;
  id = detail.id;
  bit = detail.bit;
  size = detail.size;
  count = detail.count;
  min = detail.min;
  max = detail.max;
  array = detail.flags / 2 % 2 == 0;
}

-- a field whose first bit is reported as far as 64 bits count
abbrev pub as_counted : Field → Field
as_counted field = record field { bit = min (2 ^ 64 - 1) field.bit }
