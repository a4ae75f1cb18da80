-- Representation: the tags, of an item by its prefix without the two bits of the size, shifted down.
use Rattle.std.specs.Prelude.{ℕ, ◌==◌, if◌then◌else◌}
use Rattle.descriptor_parse.specs.declared.field.Kind.TheVariants.{Input, Output, Feature}
use Rattle.descriptor_parse.specs.declared.tag.Tag.{Tag}
use Rattle.descriptor_parse.specs.declared.tag.Tag.TheVariants.{Main, Global, Local, Skipped}
use Rattle.descriptor_parse.specs.declared.tag.MainTag.TheVariants.{Data, Collection, EndCollection}
use Rattle.descriptor_parse.specs.declared.tag.GlobalTag.TheVariants.{UsagePage, LogicalMinimum, LogicalMaximum, ReportSize, ReportId, ReportCount, Push, Pop}
use Rattle.descriptor_parse.specs.declared.tag.LocalTag.TheVariants.{Usage, UsageMinimum, UsageMaximum, Delimiter}

abbrev pub main_by : ℕ → Tag → Tag
main_by q other =
    if q == 32 then Main (Data Input) else (if q == 36 then Main (Data Output) else (if q == 44 then Main (Data Feature) else (if q == 40 then Main Collection else (if q == 48 then Main EndCollection else other))))

abbrev pub global_by : ℕ → Tag → Tag
global_by q other =
    if q == 1 then Global UsagePage else (if q == 5 then Global LogicalMinimum else (if q == 9 then Global LogicalMaximum else (if q == 29 then Global ReportSize else (if q == 33 then Global ReportId else (if q == 37 then Global ReportCount else (if q == 41 then Global Push else (if q == 45 then Global Pop else other)))))))

abbrev pub local_by : ℕ → Tag → Tag
local_by q other =
    if q == 2 then Local Usage else (if q == 6 then Local UsageMinimum else (if q == 10 then Local UsageMaximum else (if q == 42 then Local Delimiter else other)))

abbrev pub tag_by : ℕ → Tag
tag_by q = main_by q (global_by q (local_by q Skipped))
