-- Trusted: the collections of a text, and those around an item.
use Rattle.std.specs.Prelude.{ℕ, ◌-◌, if◌then◌else◌, Bool, true, false, List, [], ◌∷◌, ◌++◌, length, filter, take, slice_get, Option, Some, None, option_map}
use Rattle.std.specs.Option.{option_or}
use Rattle.descriptor_parse.specs.declared.tag.Tag.{Tag}
use Rattle.descriptor_parse.specs.declared.tag.Tag.TheVariants.{Local}
use Rattle.descriptor_parse.specs.declared.tag.LocalTag.TheVariants.{Usage}
use Rattle.descriptor_parse.specs.Items.{ItemValue}
use Rattle.descriptor_parse.specs.Tags.{tag, is_collection, is_end_collection}
use Rattle.descriptor_parse.specs.Globals.{unsigned, usage_page}
use Rattle.descriptor_parse.specs.Locals.{usage_number, since_main}
use Rattle.field_details.specs.declared.collection.Collection.{Collection}

abbrev pub is_usage : Tag → Bool
is_usage (Local Usage) = true
is_usage _ = false

-- the data of the first Usage among these items
abbrev pub first_usage : List ItemValue → Option (List ℕ)
first_usage [] = None
first_usage (item ∷ earlier) = option_or (first_usage earlier) (if is_usage (tag item) then Some item.bytes else None)

-- how many collections began: the number of the next one, where the first has 0
abbrev pub collection_count : List ItemValue → ℕ
collection_count before = length (filter (λ item. is_collection (tag item)) before)

abbrev pub without_last : List ℕ → List ℕ
without_last numbers = take (length numbers - 1) numbers

-- The collections that are open, by their numbers, outermost first: an End Collection closes the latest of those that are
-- open (HID 1.11, 6.2.2.6). With none open it closes none.
unfoldable pub open_now : List ItemValue → List ℕ
open_now [] = []
open_now (item ∷ before) =
    if is_collection (tag item) then open_now before ++ collection_count before ∷ []
    else (if is_end_collection (tag item) then without_last (open_now before) else open_now before)

abbrev pub innermost : List ℕ → Option ℕ
innermost numbers = slice_get numbers (length numbers - 1)

-- A collection's usage is the first Usage since the Main item before it, and a short one is of the page in force at the
-- Collection item (6.2.2.8).
abbrev pub declared_collection : List ItemValue → ItemValue → Collection
declared_collection before item = record {
  offset = item.offset;
  kind = unsigned item.bytes;
  usage = option_map (usage_number (usage_page before)) (first_usage (since_main before));
  outer = innermost (open_now before);
}

-- the collections in order of declaration
unfoldable pub collections : List ItemValue → List Collection
collections [] = []
collections (item ∷ before) = if is_collection (tag item) then collections before ++ declared_collection before item ∷ [] else collections before
