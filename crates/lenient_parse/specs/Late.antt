-- Trusted: what stands before a late Report ID. Lists of items in this crate hold them in the order of the text.
use Rattle.std.specs.Prelude.{◌/◌, ◌%◌, ◌==◌, if◌then◌else◌, Bool, false, not, ◌&&◌, ◌||◌, List, [], ◌∷◌}
use Rattle.std.specs.List.{list_any}
use Rattle.descriptor_parse.specs.Items.{ItemValue}
use Rattle.descriptor_parse.specs.Tags.{tag, is_main, is_data, is_report_id}

abbrev pub has_id : List ItemValue → Bool
has_id items = list_any (λ item. is_report_id (tag item)) items

-- a Report ID is still to come, and none came yet
abbrev pub late_after : Bool → ItemValue → Bool
late_after late item = late && not (is_report_id (tag item))

-- the first of the Main items and the Report IDs is a data item
abbrev pub next_is_data : List ItemValue → Bool
next_is_data [] = false
next_is_data (item ∷ more) =
    if is_main (tag item) then is_data (tag item) else (if is_report_id (tag item) then false else next_is_data more)

-- Bits 2 and 3 of a prefix say that an item is Local (HID 1.11, 6.2.2.2).
abbrev pub is_local : ItemValue → Bool
is_local item = item.prefix / 4 % 4 == 2

-- In a text with Report IDs, what stands before the first one is a data item, or a Local item of one.
abbrev pub is_late : Bool → ItemValue → List ItemValue → Bool
is_late late item more = late && ((is_data (tag item) || is_local item) && next_is_data (item ∷ more))
