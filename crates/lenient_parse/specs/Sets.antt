-- Trusted: the sets that Delimiters bracket (HID 1.11, 6.2.2.8).
use Rattle.shapes.specs.Shapes.{Bytes}
use Rattle.std.specs.Prelude.{ℕ, ◌+◌, ◌-◌, ◌%◌, ◌==◌, if◌then◌else◌, nat_lt, nat_le, Bool, true, false, not, ◌&&◌, ◌||◌, List, [], ◌∷◌, Option, None, Some}
use Rattle.descriptor_parse.specs.Items.{ItemValue}
use Rattle.descriptor_parse.specs.Tags.{tag, is_main, is_delimiter}
use Rattle.lenient_parse.specs.declared.seen.Seen.{Seen}

-- all data are 0, or there are none
abbrev pub is_zero : Bytes → Bool
is_zero [] = true
is_zero (b ∷ bs) = (b == 0) && is_zero bs

-- the first of the Main items and the Delimiters is a Delimiter of 0, which ends a set
abbrev pub closes : List ItemValue → Bool
closes [] = false
closes (item ∷ more) =
    if is_delimiter (tag item) then is_zero item.bytes else (if is_main (tag item) then false else closes more)

-- A Delimiter that begins a set, which another one ends. Any other stays, and is refused.
abbrev pub opens : ItemValue → List ItemValue → Bool
opens item more = is_delimiter (tag item) && (not (is_zero item.bytes) && closes more)

-- Usages, designators and strings are each given by an item alone, or by a Minimum and a Maximum, whose prefixes are 10h and
-- 20h over its own: 8, 38h and 78h. A whole one counts as 2.
abbrev pub weight : ℕ → ItemValue → ℕ
weight alone item =
    let p = item.prefix - item.prefix % 4 in if p == alone then 2 else (if (p == alone + 16) || (p == alone + 32) then 1 else 0)

-- what a set has of one of the three after more of it: none counts after the first that is whole
abbrev pub count_after : ℕ → ℕ → ℕ
count_after count more = if nat_le 2 count then count else count + more

abbrev pub seen_after : Seen → ItemValue → Seen
seen_after seen item = record {
  usages = count_after seen.usages (weight 8 item);
  designators = count_after seen.designators (weight 56 item);
  strings = count_after seen.strings (weight 120 item);
}

-- an item of a set after the first usage, designator or string, if it gives another one
abbrev pub is_other : Seen → ItemValue → Bool
is_other seen item =
    (nat_le 2 seen.usages && nat_lt 0 (weight 8 item))
    || ((nat_le 2 seen.designators && nat_lt 0 (weight 56 item)) || (nat_le 2 seen.strings && nat_lt 0 (weight 120 item)))

-- None outside of sets
abbrev pub set_after : Option Seen → ItemValue → List ItemValue → Option Seen
set_after None item more = if opens item more then Some (record { usages = 0; designators = 0; strings = 0 }) else None
set_after (Some seen) item more = if is_delimiter (tag item) then None else Some (seen_after seen item)

-- Of a set its first usage, its first designator and its first string stay.
abbrev pub is_left : Option Seen → ItemValue → List ItemValue → Bool
is_left None item more = opens item more
is_left (Some seen) item more = is_delimiter (tag item) || is_other seen item

-- a set begins
abbrev pub begins_set : Option Seen → ItemValue → List ItemValue → Bool
begins_set None item more = opens item more
begins_set (Some seen) item more = false
