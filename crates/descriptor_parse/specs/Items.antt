-- Trusted: the items of a text, one after the other.
use Rattle.shapes.specs.Shapes.{Bytes}
use Rattle.std.specs.Prelude.{ℕ, zero, suc, ◌+◌, ◌%◌, ◌==◌, if◌then◌else◌, nat_lt, List, [], ◌∷◌, length, take, drop, slice_index, Result, Ok, Err}
use Rattle.descriptor_parse.specs.declared.fault.ParseError.{ParseError}
use Rattle.descriptor_parse.specs.declared.fault.ParseFault.TheVariants.{Truncated}

-- An item: where its prefix stands in the text, its prefix and its data.
pub record ItemValue : Type 0 where
  pub offset : ℕ
  pub prefix : ℕ
  pub bytes : Bytes

-- Bits 0 and 1 of a prefix say how many bytes of data follow: 0, 1, 2 or, for 3, four (HID 1.11, 6.2.2.2).
abbrev pub data_size : ℕ → ℕ
data_size prefix = if prefix % 4 == 3 then 4 else prefix % 4

-- The prefix FEh begins a long item: a byte with the size of its data and its tag come before them (6.2.2.3).
abbrev pub head_size : ℕ → ℕ
head_size prefix = if prefix == 254 then 3 else 1

-- how many bytes the item at the front of a text takes
abbrev pub item_size : Bytes → ℕ
item_size text = if slice_index text 0 == 254 then 3 + slice_index text 1 else 1 + data_size (slice_index text 0)

-- the item at the front of a text that stands at an offset
abbrev pub front_item : ℕ → Bytes → ItemValue
front_item offset text = record {
  offset = offset;
  prefix = slice_index text 0;
  bytes = drop (head_size (slice_index text 0)) (take (item_size text) text);
}

-- The items of a text that stands at an offset, at most n of them: one after the other, up to its end or to
-- the first that is not whole.
unfoldable pub first_items : ℕ → ℕ → Bytes → List (Result ItemValue ParseError)
first_items zero offset text = []
first_items (suc n) offset [] = []
first_items (suc n) offset (b ∷ bs) =
    if nat_lt (length (b ∷ bs)) (item_size (b ∷ bs))
    then Err (record { fault = Truncated; offset = offset }) ∷ []
    else Ok (front_item offset (b ∷ bs)) ∷ first_items n (offset + item_size (b ∷ bs)) (drop (item_size (b ∷ bs)) (b ∷ bs))

-- All items of a text that stands at an offset: no text has more items than bytes.
unfoldable pub items_at : ℕ → Bytes → List (Result ItemValue ParseError)
items_at offset text = first_items (length text) offset text
