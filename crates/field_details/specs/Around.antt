-- Trusted: the collections around a data item, and the application that it belongs to.
use Rattle.std.specs.Prelude.{◌≡◌, ℕ, ◌==◌, if◌then◌else◌, nat_lt, Bool, false, List, [], ◌∷◌, ◌++◌, reverse, find, slice_get, Option, Some, None, option_map, option_and_then, unwrap_or}
use Rattle.descriptor_parse.specs.Items.{ItemValue}
use Rattle.field_details.specs.declared.collection.Collection.{Collection}
use Rattle.field_details.specs.declared.detail.Detail.{Detail}
use Rattle.field_details.specs.declared.details.Details.{Details}
use Rattle.field_details.specs.Collections.{open_now, collections}
use Rattle.field_details.specs.Details.{has_place, details}

-- what is told of these items, newest first, is all that they declare
pub record Tells (items : List ItemValue) (reported : Details) : Type 0 where
  pub fields : reported.fields.items ≡ details items
  pub groups : reported.collections.items ≡ collections items

-- the collections around each data item that takes a bit, outermost first: those that are open at it (HID 1.11, 6.2.2.6)
unfoldable pub all_around : List ItemValue → List (List ℕ)
all_around [] = []
all_around (item ∷ before) = if has_place before item then all_around before ++ open_now before ∷ [] else all_around before

-- those around one of them; none where there is no such item
abbrev pub around : List ItemValue → ℕ → List ℕ
around items place = unwrap_or (slice_get (all_around items) place) []

-- the collection with a number is an Application collection
abbrev pub is_application : List Collection → ℕ → Bool
is_application groups number = unwrap_or (option_map (λ c. c.kind == 1) (slice_get groups number)) false

-- the innermost of those around a data item that is one
abbrev pub application : List ItemValue → ℕ → Option ℕ
application items place = find (is_application (collections items)) (reverse (around items place))

-- ---- by the numbers that are reported

abbrev pub inside_in : List Detail → ℕ → Option ℕ
inside_in reported place = option_and_then (λ d. d.inside) (slice_get reported place)

-- the number right around one, where that is less
abbrev pub less_than : ℕ → ℕ → Option ℕ
less_than number outer = if nat_lt outer number then Some outer else None
