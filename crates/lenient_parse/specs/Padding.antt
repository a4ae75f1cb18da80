-- Trusted: padding in place of a data item past the limits.
use Rattle.shapes.specs.Shapes.{Bytes}
use Rattle.std.specs.Prelude.{ℕ, ◌+◌, ◌-◌, ◌*◌, ◌/◌, ◌%◌, ◌^◌, if◌then◌else◌, nat_lt, nat_le, Bool, ◌&&◌, ◌||◌, List, [], ◌∷◌}
use Rattle.descriptor_parse.specs.Items.{ItemValue}
use Rattle.descriptor_parse.specs.Tags.{tag, is_data}
use Rattle.descriptor_parse.specs.Globals.{report_size, report_count}
use Rattle.descriptor_parse.specs.Fields.{is_constant}

abbrev pub is_large : List ItemValue → ItemValue → Bool
is_large before item = nat_lt (if is_constant item then 1024 else 32) (report_size before)

-- A data item of a size or a count past the limits, by the items before it, newest first. Its bits are at most those of the
-- largest data item within them, 1,024 places of 1,024 bits.
abbrev pub is_padded : List ItemValue → ItemValue → Bool
is_padded before item =
    is_data (tag item) && ((is_large before item || nat_lt 1024 (report_count before)) && nat_le (report_size before * report_count before) (2 ^ 20))

-- the byte of a number at a place
abbrev pub byte_at : ℕ → ℕ → ℕ
byte_at place number = number / 256 ^ place % 256

-- Constant data items of as many bits: places of 1,024 bits, and one of the bits that are left. Then the Report Size and the Report
-- Count are as before.
abbrev pub padding : ℕ → ℕ → ℕ → Bytes
padding prefix size count =
    let bits = size * count in let constant = prefix - prefix % 4 + 1 in
    118 ∷ 0 ∷ 4 ∷ 150 ∷ byte_at 0 (bits / 1024) ∷ byte_at 1 (bits / 1024) ∷ constant ∷ 1
    ∷ 118 ∷ byte_at 0 (bits % 1024) ∷ byte_at 1 (bits % 1024) ∷ 149 ∷ 1 ∷ constant ∷ 1
    ∷ 119 ∷ byte_at 0 size ∷ byte_at 1 size ∷ byte_at 2 size ∷ byte_at 3 size
    ∷ 151 ∷ byte_at 0 count ∷ byte_at 1 count ∷ byte_at 2 count ∷ byte_at 3 count ∷ []
