-- Representation: what is kept between two items refines the items before.
use Rattle.shapes.specs.Shapes.{Bytes}
use Rattle.std.specs.Prelude.{◌≡◌, ℕ, ◌+◌, ◌-◌, ◌*◌, ◌^◌, ◌==◌, if◌then◌else◌, List, ℤ, pos, int_lt, Option, None, Some, option_map, find, reverse, min}
use Rattle.descriptor_parse.specs.declared.field.Kind.{Kind}
use Rattle.descriptor_parse.specs.Items.{ItemValue}
use Rattle.descriptor_parse.specs.Globals.{unsigned, signed}
use Rattle.descriptor_parse.specs.Locals.{since_main}
use Rattle.descriptor_parse.specs.declared.globals.Globals.{Globals}
use Rattle.descriptor_parse.specs.representation.GlobalsOf.{max_of}
use Rattle.descriptor_parse.specs.representation.StackRefines.{StackRefines}
use Rattle.descriptor_parse.specs.representation.Written.{usage_of}
use Rattle.field_details.specs.declared.extents.Extents.{Extents}
use Rattle.field_details.specs.declared.detail.Detail.{Detail}
use Rattle.field_details.specs.declared.walk.Walk.{Walk}
use Rattle.field_details.specs.Extents.{latest_with, power_of}
use Rattle.field_details.specs.Collections.{first_usage, open_now, collections}
use Rattle.field_details.specs.Details.{details}
use Rattle.field_details.specs.Reports.{is_of_report}
use Rattle.field_details.specs.representation.Named.{ArePending, TellsNames}

-- ---- Global items that the parser skips

abbrev pub greatest : Extents → ℤ
greatest x = if int_lt x.min (pos 0) then x.signed_max else pos x.unsigned_max

-- what one item sets, by its prefix
abbrev pub extents_by : ℕ → Bytes → Extents → Extents
extents_by p bytes x =
    if p == 52 then record x { min = signed bytes } else
    (if p == 68 then record x { signed_max = signed bytes; unsigned_max = unsigned bytes } else
    (if p == 84 then record x { exponent = power_of bytes } else
    (if p == 100 then record x { unit = unsigned bytes } else x)))

-- the values of the latest items
abbrev pub extents_of : List ItemValue → Extents
extents_of items = record {
  min = signed (latest_with 52 items);
  signed_max = signed (latest_with 68 items);
  unsigned_max = unsigned (latest_with 68 items);
  exponent = power_of (latest_with 84 items);
  unit = unsigned (latest_with 100 items);
}

-- ---- reports

-- the bit after its last one, as far as 64 bits count
abbrev pub end_of : Detail → ℕ
end_of detail = min (2 ^ 64 - 1) (detail.bit + detail.size * detail.count)

abbrev pub end_of_some : Option Detail → ℕ
end_of_some None = 0
end_of_some (Some detail) = end_of detail

-- the bit after the last of these data items that is of a report
abbrev pub end_in : Kind → ℕ → List Detail → ℕ
end_in kind id reported = end_of_some (find (is_of_report kind id) (reverse reported))

-- a data item under these values
abbrev pub detail_by : Kind → ℕ → ℕ → ℕ → Option ℕ → Globals → Extents → Detail
detail_by kind offset flags bit inside g x = record {
  offset = offset;
  kind = kind;
  flags = flags;
  id = g.id;
  bit = bit;
  size = g.size;
  count = g.count;
  min = g.min;
  max = max_of g;
  physical_min = x.min;
  physical_max = greatest x;
  unit = x.unit;
  exponent = x.exponent;
  inside = inside;
}

-- ---- all that is kept

pub record WalkRefines (before : List ItemValue) (walk : Walk) : Type 0 where
  pub extents : StackRefines extents_of before walk.extents
  pub usage : walk.usage ≡ option_map usage_of (first_usage (since_main before))
  pub opened : walk.opened.items ≡ open_now before
  pub fields : walk.reported.fields.items ≡ details before
  pub groups : walk.reported.collections.items ≡ collections before
  pub pending : ArePending (since_main before) walk.pending
  pub names : TellsNames before walk.reported
