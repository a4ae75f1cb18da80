-- Trusted: the Global items that the parser of fields skips: physical extents, unit and unit exponent.
use Rattle.shapes.specs.Shapes.{Bytes}
use Rattle.std.specs.Prelude.{ℕ, ◌-◌, ◌%◌, ◌==◌, if◌then◌else◌, nat_lt, Bool, List, [], ◌∷◌, ℤ, pos, ◌-ℤ◌, int_lt}
use Rattle.descriptor_parse.specs.Items.{ItemValue}
use Rattle.descriptor_parse.specs.Globals.{unsigned, signed, in_force}

-- Lists of items in this file and the next ones hold the items before one, newest first.

-- an item has this prefix, whatever the size of its data, which bits 0 and 1 say
abbrev pub is_with : ℕ → ItemValue → Bool
is_with p item = item.prefix - item.prefix % 4 == p

-- the data of the latest item with this prefix; none if there is no such item
abbrev pub latest_with : ℕ → List ItemValue → List ℕ
latest_with p [] = []
latest_with p (item ∷ before) = if is_with p item then item.bytes else latest_with p before

-- The Global items Physical Minimum 34h, Physical Maximum 44h, Unit Exponent 54h and Unit 64h (HID 1.11, 6.2.2.7).
abbrev pub physical_minimum : List ItemValue → ℤ
physical_minimum before = signed (latest_with 52 (in_force before))

-- read as signed only under a negative minimum, as the Logical Maximum is
abbrev pub physical_maximum : List ItemValue → ℤ
physical_maximum before =
    let bytes = latest_with 68 (in_force before) in
    if int_lt (physical_minimum before) (pos 0) then signed bytes else pos (unsigned bytes)

-- a digit of four bits in two's complement
abbrev pub signed_digit : ℕ → ℤ
signed_digit digit = if nat_lt digit 8 then pos digit else pos digit -ℤ pos 16

-- A power of ten is such a digit, 0 to Fh (6.2.2.7); other data, which the standard doesn't know, are the number that they
-- make in two's complement.
unfoldable pub power_of : Bytes → ℤ
power_of bytes = if nat_lt (unsigned bytes) 16 then signed_digit (unsigned bytes) else signed bytes

abbrev pub unit_exponent : List ItemValue → ℤ
unit_exponent before = power_of (latest_with 84 (in_force before))

abbrev pub unit_digits : List ItemValue → ℕ
unit_digits before = unsigned (latest_with 100 (in_force before))
