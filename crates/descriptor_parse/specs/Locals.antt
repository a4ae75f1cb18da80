-- Trusted: the usages of a field by the Local items before it.
use Rattle.shapes.specs.Shapes.{Bytes}
use Rattle.std.specs.Prelude.{ℕ, ◌+◌, ◌*◌, ◌/◌, ◌%◌, ◌^◌, ◌==◌, if◌then◌else◌, nat_lt, Bool, true, false, not, ◌&&◌, ◌||◌, List, [], ◌∷◌, ◌++◌, length, filter, slice_get, Option, Some, None, is_some}
use Rattle.descriptor_parse.specs.declared.tag.Tag.{Tag}
use Rattle.descriptor_parse.specs.declared.tag.Tag.TheVariants.{Main, Local}
use Rattle.descriptor_parse.specs.declared.tag.LocalTag.TheVariants.{Usage, UsageMinimum, UsageMaximum}
use Rattle.descriptor_parse.specs.Items.{ItemValue}
use Rattle.descriptor_parse.specs.Tags.{tag, is_main}
use Rattle.descriptor_parse.specs.Globals.{unsigned}

-- A usage of four bytes has its page in the high half; a shorter one is of the page in force at the Main item
-- (HID 1.11, 6.2.2.8).
abbrev pub has_page : Bytes → Bool
has_page bytes = length bytes == 4

abbrev pub usage_number : ℕ → Bytes → ℕ
usage_number page bytes = if has_page bytes then unsigned bytes else page * 2 ^ 16 + unsigned bytes

-- the items since the latest Main item
abbrev pub since_main : List ItemValue → List ItemValue
since_main [] = []
since_main (item ∷ before) = if is_main (tag item) then [] else item ∷ since_main before

-- a Usage Minimum or Usage Maximum
abbrev pub is_half : Tag → Bool
is_half (Local UsageMinimum) = true
is_half (Local UsageMaximum) = true
is_half _ = false

abbrev pub halves : List ItemValue → List ItemValue
halves items = filter (λ item. is_half (tag item)) items

-- Minimums and Maximums make pairs in their order, the first with the second, the third with the fourth: where their
-- number is odd, the newest has no partner yet.
abbrev pub without_partner : List ItemValue → Option ItemValue
without_partner items = if length (halves items) % 2 == 1 then slice_get (halves items) 0 else None

-- the Usage Minimum or Maximum since the latest Main item that has no partner yet
unfoldable pub unpaired : List ItemValue → Option ItemValue
unpaired before = without_partner (since_main before)

-- The range that an item makes, as first and last: a Usage alone, and the second of a pair with its partner.
abbrev pub range_made : ℕ → Tag → ItemValue → Option ItemValue → List (ℕ × ℕ)
range_made page (Local Usage) item partner = (usage_number page item.bytes, usage_number page item.bytes) ∷ []
range_made page (Local UsageMinimum) item (Some max) = (usage_number page item.bytes, usage_number page max.bytes) ∷ []
range_made page (Local UsageMaximum) item (Some min) = (usage_number page min.bytes, usage_number page item.bytes) ∷ []
range_made page _ item partner = []

-- the ranges that items make, in the order of the items that end them
abbrev pub ranges_made : ℕ → List ItemValue → List (ℕ × ℕ)
ranges_made page [] = []
ranges_made page (item ∷ earlier) = ranges_made page earlier ++ range_made page (tag item) item (without_partner earlier)

-- the usages of the Local items since the latest Main item
unfoldable pub usages_since_main : ℕ → List ItemValue → List (ℕ × ℕ)
usages_since_main page before = ranges_made page (since_main before)

-- the minimum and the maximum of a pair have no page of their own, or the same one
abbrev pub is_match : List ℕ → List ℕ → Bool
is_match min max = if has_page min && has_page max then unsigned min / 2 ^ 16 == unsigned max / 2 ^ 16 else not (has_page min || has_page max)

abbrev pub is_minimum : Tag → Bool
is_minimum (Local UsageMinimum) = true
is_minimum _ = false

-- An item that finds an unpaired one which it can't pair: a second of its kind, one of another page, or a Main item.
abbrev pub breaks_pair : Tag → ItemValue → Option ItemValue → Bool
breaks_pair (Main m) item half = is_some half
breaks_pair (Local UsageMinimum) item (Some half) = is_minimum (tag half) || not (is_match item.bytes half.bytes)
breaks_pair (Local UsageMaximum) item (Some half) = not (is_minimum (tag half)) || not (is_match half.bytes item.bytes)
breaks_pair _ item half = false

-- an item that makes a pair whose minimum is over its maximum
abbrev pub is_inverted : Tag → ItemValue → Option ItemValue → Bool
is_inverted (Local UsageMinimum) item (Some half) = nat_lt (unsigned half.bytes) (unsigned item.bytes)
is_inverted (Local UsageMaximum) item (Some half) = nat_lt (unsigned item.bytes) (unsigned half.bytes)
is_inverted _ item half = false
