-- Trusted: the Global items in force, and the numbers in data.
use Rattle.shapes.specs.Shapes.{Bytes}
use Rattle.std.specs.Prelude.{ℕ, ◌+◌, ◌*◌, ◌^◌, ◌%◌, if◌then◌else◌, nat_lt, Bool, List, [], ◌∷◌, length, filter, ℤ, pos, ◌-ℤ◌, int_lt}
use Rattle.std.specs.List.{list_any}
use Rattle.descriptor_parse.specs.declared.tag.Tag.{Tag}
use Rattle.descriptor_parse.specs.Items.{ItemValue}
use Rattle.descriptor_parse.specs.Tags.{tag, is_usage_page, is_logical_minimum, is_logical_maximum, is_report_size, is_report_id, is_report_count, is_push, is_pop}

-- Lists of items in this file and the next ones hold the items before one, newest first.

-- Data are little-endian (HID 1.11, 6.2.2.2); no data are 0.
abbrev pub unsigned : Bytes → ℕ
unsigned [] = 0
unsigned (b ∷ bs) = b + 256 * unsigned bs

-- two's complement
unfoldable pub signed : Bytes → ℤ
signed bytes = if nat_lt (2 * unsigned bytes) (256 ^ length bytes) then pos (unsigned bytes) else pos (unsigned bytes) -ℤ pos (256 ^ length bytes)

-- what stands before the latest Push, newest first
unfoldable pub before_push : List ItemValue → List ItemValue
before_push [] = []
before_push (item ∷ before) = if is_push (tag item) then before else before_push before

-- A Pop takes out the latest Push that is left and all after it (6.2.2.7); without one it takes nothing out.
abbrev pub taken_back : List ItemValue → List ItemValue
taken_back items = if list_any (λ item. is_push (tag item)) items then before_push items else items

-- the items whose Globals are in force after them all
unfoldable pub in_force : List ItemValue → List ItemValue
in_force [] = []
in_force (item ∷ before) = if is_pop (tag item) then taken_back (in_force before) else item ∷ in_force before

-- the data of the latest item with such a tag; none if there is no such item
abbrev pub latest : (Tag → Bool) → List ItemValue → List ℕ
latest wanted [] = []
latest wanted (item ∷ before) = if wanted (tag item) then item.bytes else latest wanted before

-- a page has 16 bits
abbrev pub usage_page : List ItemValue → ℕ
usage_page before = unsigned (latest is_usage_page (in_force before)) % 2 ^ 16

abbrev pub report_size : List ItemValue → ℕ
report_size before = unsigned (latest is_report_size (in_force before))

abbrev pub report_count : List ItemValue → ℕ
report_count before = unsigned (latest is_report_count (in_force before))

-- 0 if no Report ID is in force: no Report ID is 0
abbrev pub report_id : List ItemValue → ℕ
report_id before = unsigned (latest is_report_id (in_force before))

abbrev pub logical_minimum : List ItemValue → ℤ
logical_minimum before = signed (latest is_logical_minimum (in_force before))

-- read as signed only under a negative minimum
abbrev pub logical_maximum : List ItemValue → ℤ
logical_maximum before =
    let bytes = latest is_logical_maximum (in_force before) in
    if int_lt (logical_minimum before) (pos 0) then signed bytes else pos (unsigned bytes)

-- the Pushes that are still to be popped
abbrev pub pushes : List ItemValue → ℕ
pushes before = length (filter (λ item. is_push (tag item)) (in_force before))
