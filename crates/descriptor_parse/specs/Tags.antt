-- Trusted: the tags of items.
use Rattle.std.specs.Prelude.{ℕ, ◌-◌, ◌%◌, ◌==◌, if◌then◌else◌, Bool, true, false}
use Rattle.descriptor_parse.specs.declared.field.Kind.{Kind}
use Rattle.descriptor_parse.specs.declared.field.Kind.TheVariants.{Input, Output, Feature}
use Rattle.descriptor_parse.specs.declared.tag.Tag.{Tag}
use Rattle.descriptor_parse.specs.declared.tag.Tag.TheVariants.{Main, Global, Local, Skipped}
use Rattle.descriptor_parse.specs.declared.tag.MainTag.TheVariants.{Data, Collection, EndCollection}
use Rattle.descriptor_parse.specs.declared.tag.GlobalTag.TheVariants.{UsagePage, LogicalMinimum, LogicalMaximum, ReportSize, ReportId, ReportCount, Push, Pop}
use Rattle.descriptor_parse.specs.declared.tag.LocalTag.TheVariants.{Usage, UsageMinimum, UsageMaximum, Delimiter}
use Rattle.descriptor_parse.specs.Items.{ItemValue}

-- What an item is, by its prefix without the two bits of the size (HID 1.11, 6.2.2.4, 6.2.2.7 and 6.2.2.8).
abbrev pub main_or_other : ℕ → Tag → Tag
main_or_other p other =
    if p == 128 then Main (Data Input) else (if p == 144 then Main (Data Output) else (if p == 176 then Main (Data Feature) else
    (if p == 160 then Main Collection else (if p == 192 then Main EndCollection else other))))

abbrev pub global_or_other : ℕ → Tag → Tag
global_or_other p other =
    if p == 4 then Global UsagePage else (if p == 20 then Global LogicalMinimum else (if p == 36 then Global LogicalMaximum else
    (if p == 116 then Global ReportSize else (if p == 132 then Global ReportId else (if p == 148 then Global ReportCount else
    (if p == 164 then Global Push else (if p == 180 then Global Pop else other)))))))

abbrev pub local_or_other : ℕ → Tag → Tag
local_or_other p other =
    if p == 8 then Local Usage else (if p == 24 then Local UsageMinimum else (if p == 40 then Local UsageMaximum else
    (if p == 168 then Local Delimiter else other)))

unfoldable pub tag_of : ℕ → Tag
tag_of prefix = let p = prefix - prefix % 4 in main_or_other p (global_or_other p (local_or_other p Skipped))

abbrev pub tag : ItemValue → Tag
tag item = tag_of item.prefix

abbrev pub is_data : Tag → Bool
is_data (Main (Data kind)) = true
is_data _ = false

abbrev pub same_kind : Kind → Kind → Bool
same_kind Input Input = true
same_kind Output Output = true
same_kind Feature Feature = true
same_kind _ _ = false

abbrev pub is_data_of : Kind → Tag → Bool
is_data_of kind (Main (Data other)) = same_kind kind other
is_data_of kind _ = false

abbrev pub is_main : Tag → Bool
is_main (Main m) = true
is_main _ = false

abbrev pub is_collection : Tag → Bool
is_collection (Main Collection) = true
is_collection _ = false

abbrev pub is_end_collection : Tag → Bool
is_end_collection (Main EndCollection) = true
is_end_collection _ = false

abbrev pub is_usage_page : Tag → Bool
is_usage_page (Global UsagePage) = true
is_usage_page _ = false

abbrev pub is_logical_minimum : Tag → Bool
is_logical_minimum (Global LogicalMinimum) = true
is_logical_minimum _ = false

abbrev pub is_logical_maximum : Tag → Bool
is_logical_maximum (Global LogicalMaximum) = true
is_logical_maximum _ = false

abbrev pub is_report_size : Tag → Bool
is_report_size (Global ReportSize) = true
is_report_size _ = false

abbrev pub is_report_id : Tag → Bool
is_report_id (Global ReportId) = true
is_report_id _ = false

abbrev pub is_report_count : Tag → Bool
is_report_count (Global ReportCount) = true
is_report_count _ = false

abbrev pub is_push : Tag → Bool
is_push (Global Push) = true
is_push _ = false

abbrev pub is_pop : Tag → Bool
is_pop (Global Pop) = true
is_pop _ = false

abbrev pub is_delimiter : Tag → Bool
is_delimiter (Local Delimiter) = true
is_delimiter _ = false
