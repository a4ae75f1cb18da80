-- Trusted: the strings and designators of a Main item.
use Rattle.std.specs.Prelude.{ℕ, if◌then◌else◌, nat_lt, List, [], ◌∷◌, ◌++◌, filter, slice_get, Option, None, Some, option_map}
use Rattle.std.specs.Option.{option_to_list}
use Rattle.descriptor_parse.specs.Items.{ItemValue}
use Rattle.descriptor_parse.specs.Globals.{unsigned}
use Rattle.descriptor_parse.specs.Locals.{since_main}
use Rattle.field_details.specs.declared.naming.Naming.{Naming}
use Rattle.field_details.specs.declared.naming.Naming.TheVariants.{Strings, Designators}
use Rattle.field_details.specs.Extents.{is_with}
use Rattle.field_details.specs.Collections.{collections}
use Rattle.field_details.specs.Details.{details}

-- The Local items String Index 78h, String Minimum 88h and String Maximum 98h, and Designator Index 38h, Designator Minimum
-- 48h and Designator Maximum 58h (HID 1.11, 6.2.2.8).
abbrev pub index_prefix : Naming → ℕ
index_prefix Strings = 120
index_prefix Designators = 56

abbrev pub minimum_prefix : Naming → ℕ
minimum_prefix Strings = 136
minimum_prefix Designators = 72

abbrev pub maximum_prefix : Naming → ℕ
maximum_prefix Strings = 152
maximum_prefix Designators = 88

-- the latest Minimum, if no Maximum came after it
abbrev pub waiting : Naming → List ItemValue → Option ℕ
waiting naming [] = None
waiting naming (item ∷ before) =
    if is_with (minimum_prefix naming) item then Some (unsigned item.bytes)
    else (if is_with (maximum_prefix naming) item then None else waiting naming before)

-- The pairs that an item makes, where this Minimum waits: an Index alone, as first and last, and a Maximum with the
-- Minimum, in whatever order their numbers stand. A Maximum for which none waits makes none.
abbrev pub made : Naming → ItemValue → Option ℕ → List (ℕ × ℕ)
made naming item least =
    if is_with (index_prefix naming) item then (unsigned item.bytes, unsigned item.bytes) ∷ []
    else (if is_with (maximum_prefix naming) item then option_to_list (option_map (λ n. (n, unsigned item.bytes)) least) else [])

-- those that items make, in order
abbrev pub names_made : Naming → List ItemValue → List (ℕ × ℕ)
names_made naming [] = []
names_made naming (item ∷ before) = names_made naming before ++ made naming item (waiting naming before)

-- the items that begin before an offset
abbrev pub before_offset : ℕ → List ItemValue → List ItemValue
before_offset offset items = filter (λ item. nat_lt item.offset offset) items

-- Those of the Main item at an offset: what the Local items since the Main item before it make.
abbrev pub names_at : Naming → ℕ → List ItemValue → List (ℕ × ℕ)
names_at naming offset items = names_made naming (since_main (before_offset offset items))

-- those of the item at an offset, if there is one
abbrev pub names_if : Naming → List ItemValue → Option ℕ → List (ℕ × ℕ)
names_if naming items None = []
names_if naming items (Some offset) = names_at naming offset items

-- Those of a data item that takes a bit, by its place, and those of a collection, by its number; none where there is no such
-- item.
abbrev pub field_names : Naming → List ItemValue → ℕ → List (ℕ × ℕ)
field_names naming items place = names_if naming items (option_map (λ d. d.offset) (slice_get (details items) place))

abbrev pub collection_names : Naming → List ItemValue → ℕ → List (ℕ × ℕ)
collection_names naming items number = names_if naming items (option_map (λ c. c.offset) (slice_get (collections items) number))
