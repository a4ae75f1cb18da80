-- Representation: the values that the Global items give.
use Rattle.shapes.specs.Shapes.{Bytes}
use Rattle.std.specs.Prelude.{◌%◌, ◌^◌, if◌then◌else◌, List, ℤ, pos, int_lt}
use Rattle.descriptor_parse.specs.declared.globals.Globals.{Globals}
use Rattle.descriptor_parse.specs.declared.tag.GlobalTag.{GlobalTag}
use Rattle.descriptor_parse.specs.declared.tag.GlobalTag.TheVariants.{UsagePage, LogicalMinimum, LogicalMaximum, ReportSize, ReportId, ReportCount, Push, Pop}
use Rattle.descriptor_parse.specs.Items.{ItemValue}
use Rattle.descriptor_parse.specs.Tags.{is_usage_page, is_logical_minimum, is_logical_maximum, is_report_size, is_report_id, is_report_count}
use Rattle.descriptor_parse.specs.Globals.{unsigned, signed, latest}

abbrev pub max_of : Globals → ℤ
max_of g = if int_lt g.min (pos 0) then g.signed_max else pos g.unsigned_max

-- what one item sets
abbrev pub globals_with : GlobalTag → Bytes → Globals → Globals
globals_with UsagePage bytes g = record g { page = unsigned bytes % 2 ^ 16 }
globals_with LogicalMinimum bytes g = record g { min = signed bytes }
globals_with LogicalMaximum bytes g = record g { signed_max = signed bytes; unsigned_max = unsigned bytes }
globals_with ReportSize bytes g = record g { size = unsigned bytes }
globals_with ReportId bytes g = record g { id = unsigned bytes % 2 ^ 8 }
globals_with ReportCount bytes g = record g { count = unsigned bytes }
globals_with Push bytes g = g
globals_with Pop bytes g = g

-- the values of the latest items
abbrev pub globals_of : List ItemValue → Globals
globals_of items = record {
  page = unsigned (latest is_usage_page items) % 2 ^ 16;
  min = signed (latest is_logical_minimum items);
  signed_max = signed (latest is_logical_maximum items);
  unsigned_max = unsigned (latest is_logical_maximum items);
  size = unsigned (latest is_report_size items);
  count = unsigned (latest is_report_count items);
  id = unsigned (latest is_report_id items);
}
