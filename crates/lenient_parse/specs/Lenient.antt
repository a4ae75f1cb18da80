-- Trusted: the text that is parsed in place of another one, and what was passed over.
use Rattle.shapes.specs.Shapes.{Bytes}
use Rattle.std.specs.Prelude.{ℕ, ◌==◌, if◌then◌else◌, nat_lt, Bool, ◌&&◌, List, [], ◌∷◌, ◌++◌, length, drop, replicate, Option, None, Some, Result, Ok, Err}
use Rattle.descriptor_parse.specs.declared.fault.ParseError.{ParseError}
use Rattle.descriptor_parse.specs.declared.fault.ParseFault.{ParseFault}
use Rattle.descriptor_parse.specs.declared.fault.ParseFault.TheVariants.{Delimiter, SizeTooLarge, CountTooLarge, MixedIds}
use Rattle.descriptor_parse.specs.Items.{ItemValue, items_at}
use Rattle.descriptor_parse.specs.Tags.{tag, is_data}
use Rattle.descriptor_parse.specs.Globals.{report_size, report_count}
use Rattle.lenient_parse.specs.declared.seen.Seen.{Seen}
use Rattle.lenient_parse.specs.declared.state.Instead.{Instead}
use Rattle.lenient_parse.specs.declared.state.Instead.TheVariants.{Item, Nothing, Padding}
use Rattle.lenient_parse.specs.Late.{has_id, late_after, is_late}
use Rattle.lenient_parse.specs.Sets.{set_after, is_left, begins_set}
use Rattle.lenient_parse.specs.Padding.{is_large, is_padded, padding}

-- ---- one item

-- what stands in its place
abbrev pub instead : Bool → Option Seen → List ItemValue → ItemValue → List ItemValue → Instead
instead late set before item more =
    if is_late late item more then Nothing else (if is_left set item more then Nothing else (if is_padded before item then Padding else Item))

-- the fault of the strict reader that is passed over
abbrev pub passed : Bool → Option Seen → List ItemValue → ItemValue → List ItemValue → Option ParseFault
passed late set before item more =
    if late && is_data (tag item) then Some MixedIds else
    (if begins_set set item more then Some Delimiter else
    (if is_padded before item then Some (if is_large before item then SizeTooLarge else CountTooLarge) else None))

-- the bytes that write a short item; a long one says nothing, and is left out
abbrev pub written : ItemValue → Bytes
written item = if item.prefix == 254 then [] else item.prefix ∷ item.bytes

abbrev pub bytes_of : Instead → List ItemValue → ItemValue → Bytes
bytes_of Item before item = written item
bytes_of Nothing before item = []
bytes_of Padding before item = padding item.prefix (report_size before) (report_count before)

abbrev pub reported : Option ParseFault → ItemValue → List ParseError
reported None item = []
reported (Some fault) item = record { fault = fault; offset = item.offset } ∷ []

-- ---- the items of a text, after those before

unfoldable pub text_from : Bool → Option Seen → List ItemValue → List ItemValue → Bytes
text_from late set before [] = []
text_from late set before (item ∷ more) =
    bytes_of (instead late set before item more) before item ++ text_from (late_after late item) (set_after set item more) (item ∷ before) more

-- where in the text each byte comes from: the offset of its item
unfoldable pub origins_from : Bool → Option Seen → List ItemValue → List ItemValue → List ℕ
origins_from late set before [] = []
origins_from late set before (item ∷ more) =
    replicate (length (bytes_of (instead late set before item more) before item)) item.offset
    ++ origins_from (late_after late item) (set_after set item more) (item ∷ before) more

unfoldable pub passed_from : Bool → Option Seen → List ItemValue → List ItemValue → List ParseError
passed_from late set before [] = []
passed_from late set before (item ∷ more) =
    reported (passed late set before item more) item ++ passed_from (late_after late item) (set_after set item more) (item ∷ before) more

-- ---- a whole text

-- its whole items
abbrev pub whole : List (Result ItemValue ParseError) → List ItemValue
whole [] = []
whole (Ok item ∷ more) = item ∷ whole more
whole (Err e ∷ more) = []

-- where they end in a text of this length
abbrev pub end_of : ℕ → List (Result ItemValue ParseError) → ℕ
end_of len [] = len
end_of len (Ok item ∷ more) = end_of len more
end_of len (Err e ∷ more) = e.offset

abbrev pub items_of : Bytes → List ItemValue
items_of text = whole (items_at 0 text)

-- The faults of the strict reader that are passed over, in order. A text over 4,096 bytes is left to it.
unfoldable pub passed_over : Bytes → List ParseError
passed_over text = if nat_lt 4096 (length text) then [] else passed_from (has_id (items_of text)) None [] (items_of text)

-- an item that was cut off stays
abbrev pub cut_off : Bytes → Bytes
cut_off text = drop (end_of (length text) (items_at 0 text)) text

unfoldable pub rewritten : Bytes → Bytes
rewritten text = text_from (has_id (items_of text)) None [] (items_of text) ++ cut_off text

unfoldable pub origins : Bytes → List ℕ
origins text =
    origins_from (has_id (items_of text)) None [] (items_of text) ++ replicate (length (cut_off text)) (end_of (length text) (items_at 0 text))

-- The text that the strict reader parses in place of one in which a fault is passed over.
pub record LenientValue : Type 0 where
  pub text : Bytes
  pub origins : List ℕ
  pub passed : List ParseError
  pub len : ℕ

abbrev pub lenient_of : Bytes → LenientValue
lenient_of text = record { text = rewritten text; origins = origins text; passed = passed_over text; len = length text }
