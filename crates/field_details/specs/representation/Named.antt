-- Representation: the strings and designators that are kept refine the items before.
use Rattle.std.specs.Prelude.{◌≡◌, ◌≤◌, ℕ, if◌then◌else◌, Bool, List, [], ◌∷◌, ◌++◌, length, slice_get, Option, None, Some, unwrap_or}
use Rattle.std.specs.List.{slice_range}
use Rattle.descriptor_parse.specs.Items.{ItemValue}
use Rattle.descriptor_parse.specs.Tags.{tag, is_collection}
use Rattle.descriptor_parse.specs.Globals.{unsigned}
use Rattle.descriptor_parse.specs.Locals.{since_main}
use Rattle.field_details.specs.declared.naming.Naming.{Naming}
use Rattle.field_details.specs.declared.naming.Naming.TheVariants.{Strings, Designators}
use Rattle.field_details.specs.declared.names.Part.{Part}
use Rattle.field_details.specs.declared.names.Named.{Named}
use Rattle.field_details.specs.declared.names.Names.{Names}
use Rattle.field_details.specs.declared.pending.Pending.{Pending}
use Rattle.field_details.specs.declared.pending.AllPending.{AllPending}
use Rattle.field_details.specs.declared.details.Details.{Details}
use Rattle.field_details.specs.Extents.{is_with}
use Rattle.field_details.specs.Details.{has_place}
use Rattle.field_details.specs.Names.{minimum_prefix, maximum_prefix, waiting, names_made}

-- the Minimum that waits after an item
abbrev pub waits : Naming → ItemValue → Option ℕ → Option ℕ
waits naming item least =
    if is_with (minimum_prefix naming) item then Some (unsigned item.bytes)
    else (if is_with (maximum_prefix naming) item then None else least)

-- ---- which ranges each item has

abbrev pub IsPart : List (ℕ × ℕ) → Part → Type 0
IsPart ranges part = (part.start ≤ part.end) × (part.end ≤ length ranges)

abbrev pub part_of : List (ℕ × ℕ) → Part → List (ℕ × ℕ)
part_of ranges part = slice_range ranges part.start part.end

-- these parts are the ranges of these items, in order; those past the last part have none
abbrev pub AreGiven : List (ℕ × ℕ) → List Part → List (List (ℕ × ℕ)) → Type 0
AreGiven ranges [] [] = Unit
AreGiven ranges [] (own ∷ more) = (own ≡ []) × AreGiven ranges [] more
AreGiven ranges (part ∷ parts) [] = ⊥
AreGiven ranges (part ∷ parts) (own ∷ more) = IsPart ranges part × (part_of ranges part ≡ own) × AreGiven ranges parts more

-- those at a place
abbrev pub given_at : List (List (ℕ × ℕ)) → ℕ → List (ℕ × ℕ)
given_at given place = unwrap_or (slice_get given place) []

-- what the Local items before them give the Main items that pass a test, in order
unfoldable pub names_given : (List ItemValue → ItemValue → Bool) → Naming → List ItemValue → List (List (ℕ × ℕ))
names_given test naming [] = []
names_given test naming (item ∷ before) =
    if test before item then names_given test naming before ++ names_made naming (since_main before) ∷ [] else names_given test naming before

abbrev pub is_group : List ItemValue → ItemValue → Bool
is_group before item = is_collection (tag item)

-- ---- all that is kept

-- the ranges that these Local items make, and the Minimum that waits after them
pub record IsPending (naming : Naming) (items : List ItemValue) (pending : Pending) : Type 0 where
  pub ranges : pending.ranges.items ≡ names_made naming items
  pub least : pending.least ≡ waiting naming items

pub record ArePending (items : List ItemValue) (pending : AllPending) : Type 0 where
  pub strings : IsPending Strings items pending.strings
  pub designators : IsPending Designators items pending.designators

pub record NamedRefines (naming : Naming) (before : List ItemValue) (named : Named) : Type 0 where
  pub fields : AreGiven named.ranges.items named.fields.items (names_given has_place naming before)
  pub groups : AreGiven named.ranges.items named.collections.items (names_given is_group naming before)

pub record NamesRefine (before : List ItemValue) (names : Names) : Type 0 where
  pub strings : NamedRefines Strings before names.strings
  pub designators : NamedRefines Designators before names.designators

-- what is told of these items, newest first, has their strings and designators
abbrev pub TellsNames : List ItemValue → Details → Type 0
TellsNames items told = NamesRefine items told.names
