-- The strings and designators of data items and collections.
use Rattle.std.proofs.Common.{◌≡◌, ℕ, zero, suc, ◌+◌, ◌<◌, ◌≤◌, List, [], ◌∷◌, ◌++◌, length, map, drop, refl, arith, sym, ◌∙◌, ap, Bool, true, false, cond, inl, inr, length-append}
use Rattle.std.proofs.lemmas.Bool.{cases_Bool, le-ltb, lt-ltb}
use Rattle.std.proofs.lemmas.List.{map-append, append-nil}
use Rattle.std.proofs.lemmas.Option.{slice_get-map}
use Rattle.std.specs.Prelude.{◌&&◌, slice_get, nat_lt}
use Rattle.shapes.specs.Shapes.{Bytes}
use Rattle.descriptor_parse.specs.declared.tag.Tag.{Tag}
use Rattle.descriptor_parse.specs.declared.tag.Tag.TheVariants.{Main, Skipped}
use Rattle.descriptor_parse.specs.declared.tag.MainTag.TheVariants.{Data, Collection}
use Rattle.descriptor_parse.specs.Items.{ItemValue, item_size, front_item, first_items, items_at}
use Rattle.descriptor_parse.specs.Tags.{tag, is_main, is_data, is_collection}
use Rattle.descriptor_parse.specs.Locals.{since_main}
use Rattle.descriptor_parse.specs.Faults.{onto, all_items}
use Rattle.descriptor_parse.proofs.ItemLemmas.{size_pos}
use Rattle.field_details.specs.declared.naming.Naming.{Naming}
use Rattle.field_details.specs.declared.naming.Naming.TheVariants.{Strings, Designators}
use Rattle.field_details.specs.declared.collection.Collection.{Collection as Group}
use Rattle.field_details.specs.declared.detail.Detail.{Detail}
use Rattle.field_details.specs.declared.names.Named.{Named}
use Rattle.field_details.specs.declared.names.Names.{Names}
use Rattle.field_details.specs.declared.pending.Pending.{Pending}
use Rattle.field_details.specs.declared.pending.AllPending.{AllPending}
use Rattle.field_details.specs.Extents.{is_with}
use Rattle.field_details.specs.Collections.{collections, declared_collection}
use Rattle.field_details.specs.Details.{has_place, details, declared_detail}
use Rattle.field_details.specs.Names.{index_prefix, minimum_prefix, maximum_prefix, names_made, before_offset, names_at, names_if, field_names, collection_names}
use Rattle.field_details.specs.representation.Named.{AreGiven, given_at, names_given, is_group, IsPending, ArePending, NamedRefines, NamesRefine}
use Rattle.field_details.proofs.ExtentLemmas.{is_other}

-- ---- an item that declares none

record IsSilent (naming : Naming) (item : ItemValue) : Type 0 where
  index : is_with (index_prefix naming) item ≡ false
  minimum : is_with (minimum_prefix naming) item ≡ false
  maximum : is_with (maximum_prefix naming) item ≡ false

silent : (naming : Naming) (item : ItemValue) (t : Tag) → tag item ≡ t → (t ≡ Skipped → ⊥) → IsSilent naming item
silent Strings item t e n = record { index = is_other 120 item t refl e n; minimum = is_other 136 item t refl e n; maximum = is_other 152 item t refl e n }
silent Designators item t e n = record { index = is_other 56 item t refl e n; minimum = is_other 72 item t refl e n; maximum = is_other 88 item t refl e n }

pending_silent : (naming : Naming) (item : ItemValue) (items : List ItemValue) (pending : Pending) → IsSilent naming item → IsPending naming items pending → IsPending naming (item ∷ items) pending
pending_silent naming item items pending q p = record {
  ranges = rw (q.index, q.maximum) (p.ranges ∙ sym (append-nil (names_made naming items)));
  least = rw (q.minimum, q.maximum) p.least;
}

pub pending_known : (before : List ItemValue) (item : ItemValue) (t : Tag) (pending : AllPending) → tag item ≡ t → (t ≡ Skipped → ⊥) → is_main t ≡ false
    → ArePending (since_main before) pending → ArePending (since_main (item ∷ before)) pending
pending_known before item t pending e n m p =
    let other : is_main (tag item) ≡ false = ap is_main e ∙ m in
    rw other (record {
      strings = pending_silent Strings item (since_main before) pending.strings (silent Strings item t e n) p.strings;
      designators = pending_silent Designators item (since_main before) pending.designators (silent Designators item t e n) p.designators;
    })

pub pending_skipped : (before : List ItemValue) (item : ItemValue) (pending : AllPending) → tag item ≡ Skipped → ArePending (item ∷ since_main before) pending
    → ArePending (since_main (item ∷ before)) pending
pending_skipped before item pending e p =
    let other : is_main (tag item) ≡ false = ap is_main e in
    rw other p

pub pending_main : (before : List ItemValue) (item : ItemValue) (pending : AllPending) → is_main (tag item) ≡ true → ArePending [] pending → ArePending (since_main (item ∷ before)) pending
pending_main before item pending e p = rw e p

-- ---- what Main items are given

names_more : (test : List ItemValue → ItemValue → Bool) (naming : Naming) (before : List ItemValue) (item : ItemValue) → test before item ≡ true
    → names_given test naming (item ∷ before) ≡ names_given test naming before ++ names_made naming (since_main before) ∷ []
unfolding names_given
names_more test naming before item p = rw p refl

names_same : (test : List ItemValue → ItemValue → Bool) (naming : Naming) (before : List ItemValue) (item : ItemValue) → test before item ≡ false
    → names_given test naming (item ∷ before) ≡ names_given test naming before
unfolding names_given
names_same test naming before item p = rw p refl

pub named_new : (naming : Naming) (named : Named) → named.fields.items ≡ [] → named.collections.items ≡ [] → NamedRefines naming [] named
unfolding names_given
named_new naming named fields groups = record { fields = rw fields tt; groups = rw groups tt }

as_many_fields : (naming : Naming) (items : List ItemValue) → length (names_given has_place naming items) ≡ length (details items)
unfolding names_given details
as_many_fields naming [] = refl
as_many_fields naming (item ∷ before) =
    elim (has_place before item) as (λ b. length (cond b (names_given has_place naming before ++ names_made naming (since_main before) ∷ []) (names_given has_place naming before))
    ≡ length (cond b (details before ++ declared_detail before item ∷ []) (details before))) [
      | true ↦ length-append (names_given has_place naming before) (names_made naming (since_main before) ∷ [])
          ∙ (let ih = as_many_fields naming before in omega (arith, ih, length-append (details before) (declared_detail before item ∷ [])))
      | false ↦ as_many_fields naming before
    ]

as_many_groups : (naming : Naming) (items : List ItemValue) → length (names_given is_group naming items) ≡ length (collections items)
unfolding names_given collections
as_many_groups naming [] = refl
as_many_groups naming (item ∷ before) =
    elim (is_collection (tag item)) as (λ b. length (cond b (names_given is_group naming before ++ names_made naming (since_main before) ∷ []) (names_given is_group naming before))
    ≡ length (cond b (collections before ++ declared_collection before item ∷ []) (collections before))) [
      | true ↦ length-append (names_given is_group naming before) (names_made naming (since_main before) ∷ [])
          ∙ (let ih = as_many_groups naming before in omega (arith, ih, length-append (collections before) (declared_collection before item ∷ [])))
      | false ↦ as_many_groups naming before
    ]

no_group : (t : Tag) (b : Bool) → (is_data t && b) ≡ true → is_collection t ≡ false
no_group (Main (Data k)) b e = refl
no_group (Main Collection) b e = cc
no_group _ b e = refl

no_place : (t : Tag) (b : Bool) → is_collection t ≡ true → (is_data t && b) ≡ false
no_place (Main Collection) b e = refl
no_place _ b e = cc

-- a data item with the ranges that wait for it
pub named_field : (naming : Naming) (before : List ItemValue) (item : ItemValue) (old new : Named) (place : ℕ) (own : List (ℕ × ℕ)) → has_place before item ≡ true
    → place ≡ length (details before) → own ≡ names_made naming (since_main before)
    → ((given : List (List (ℕ × ℕ))) → place ≡ length given → AreGiven old.ranges.items old.fields.items given → AreGiven new.ranges.items new.fields.items (given ++ own ∷ []))
    → ((given : List (List (ℕ × ℕ))) → AreGiven old.ranges.items old.collections.items given → AreGiven new.ranges.items new.collections.items given)
    → NamedRefines naming before old → NamedRefines naming (item ∷ before) new
named_field naming before item old new place own p at is fields groups r = record {
  fields = rw (names_more has_place naming before item p, ← is) (fields (names_given has_place naming before) (at ∙ sym (as_many_fields naming before)) r.fields);
  groups = rw (names_same is_group naming before item (no_group (tag item) _ p)) (groups (names_given is_group naming before) r.groups);
}

-- a collection
pub named_group : (naming : Naming) (before : List ItemValue) (item : ItemValue) (old new : Named) (number : ℕ) (own : List (ℕ × ℕ)) → is_collection (tag item) ≡ true
    → number ≡ length (collections before) → own ≡ names_made naming (since_main before)
    → ((given : List (List (ℕ × ℕ))) → number ≡ length given → AreGiven old.ranges.items old.collections.items given → AreGiven new.ranges.items new.collections.items (given ++ own ∷ []))
    → ((given : List (List (ℕ × ℕ))) → AreGiven old.ranges.items old.fields.items given → AreGiven new.ranges.items new.fields.items given)
    → NamedRefines naming before old → NamedRefines naming (item ∷ before) new
named_group naming before item old new number own p at is groups fields r = record {
  fields = rw (names_same has_place naming before item (no_place (tag item) _ p)) (fields (names_given has_place naming before) r.fields);
  groups = rw (names_more is_group naming before item p, ← is) (groups (names_given is_group naming before) (at ∙ sym (as_many_groups naming before)) r.groups);
}

-- any other item
named_other : (naming : Naming) (before : List ItemValue) (item : ItemValue) (named : Named) → has_place before item ≡ false → is_collection (tag item) ≡ false
    → NamedRefines naming before named → NamedRefines naming (item ∷ before) named
named_other naming before item named place group r = record {
  fields = rw (names_same has_place naming before item place) r.fields;
  groups = rw (names_same is_group naming before item group) r.groups;
}

pub names_other : (before : List ItemValue) (item : ItemValue) (names : Names) → has_place before item ≡ false → is_collection (tag item) ≡ false
    → NamesRefine before names → NamesRefine (item ∷ before) names
names_other before item names place group r = record {
  strings = named_other Strings before item names.strings place group r.strings;
  designators = named_other Designators before item names.designators place group r.designators;
}

-- ---- the offsets of the items of a text rise

abbrev AreBefore : ℕ → List ItemValue → Type 0
AreBefore offset [] = Unit
AreBefore offset (item ∷ items) = (item.offset < offset) × AreBefore offset items

abbrev AreInOrder : List ItemValue → Type 0
AreInOrder [] = Unit
AreInOrder (item ∷ before) = AreBefore item.offset before × AreInOrder before

before_later : (a b : ℕ) (items : List ItemValue) → AreBefore a items → a ≤ b → AreBefore b items
before_later a b [] e l = tt
before_later a b (item ∷ items) e l = (let first = e.0 in omega (arith, first, l), before_later a b items e.1 l)

in_order : (n at : ℕ) (text : List ℕ) (before : List ItemValue) → AreBefore at before → AreInOrder before → AreInOrder (onto before (first_items n at text))
unfolding first_items
in_order zero at text before b o = o
in_order (suc n) at [] before b o = o
in_order (suc n) at (x ∷ xs) before b o =
    let some : 0 < item_size (x ∷ xs) = size_pos (x ∷ xs) in
    elim (cases_Bool (nat_lt (length (x ∷ xs)) (item_size (x ∷ xs)))) [
      | inl cut ↦ rw cut o
      | inr whole ↦ rw whole (in_order n (at + item_size (x ∷ xs)) (drop (item_size (x ∷ xs)) (x ∷ xs)) (front_item at (x ∷ xs) ∷ before)
          (omega (arith, some), before_later at (at + item_size (x ∷ xs)) before b (omega arith)) (b, o))
    ]

all_in_order : (text : Bytes) → AreInOrder (all_items text)
unfolding all_items items_at
all_in_order text = in_order (length text) 0 text [] tt tt

before_all : (offset : ℕ) (items : List ItemValue) → AreBefore offset items → before_offset offset items ≡ items
before_all offset [] b = refl
before_all offset (item ∷ items) b =
    let soon : nat_lt item.offset offset ≡ true = lt-ltb _ _ b.0 in
    ap (λ b. cond b (item ∷ before_offset offset items) (before_offset offset items)) soon ∙ ap (λ xs. item ∷ xs) (before_all offset items b.1)

-- ---- by offsets

-- those of the items that pass a test, in order
offsets : (List ItemValue → ItemValue → Bool) → List ItemValue → List ℕ
offsets test [] = []
offsets test (item ∷ before) = cond (test before item) (offsets test before ++ item.offset ∷ []) (offsets test before)

details_offsets : (items : List ItemValue) → map (λ (d : Detail). d.offset) (details items) ≡ offsets has_place items
unfolding details offsets
details_offsets [] = refl
details_offsets (item ∷ before) =
    elim (has_place before item) as (λ b. map (λ (d : Detail). d.offset) (cond b (details before ++ declared_detail before item ∷ []) (details before))
    ≡ cond b (offsets has_place before ++ item.offset ∷ []) (offsets has_place before)) [
      | true ↦ map-append (λ (d : Detail). d.offset) (details before) (declared_detail before item ∷ []) ∙ ap (λ xs. xs ++ item.offset ∷ []) (details_offsets before)
      | false ↦ details_offsets before
    ]

groups_offsets : (items : List ItemValue) → map (λ (c : Group). c.offset) (collections items) ≡ offsets is_group items
unfolding collections offsets
groups_offsets [] = refl
groups_offsets (item ∷ before) =
    elim (is_collection (tag item)) as (λ b. map (λ (c : Group). c.offset) (cond b (collections before ++ declared_collection before item ∷ []) (collections before))
    ≡ cond b (offsets is_group before ++ item.offset ∷ []) (offsets is_group before)) [
      | true ↦ map-append (λ (c : Group). c.offset) (collections before) (declared_collection before item ∷ []) ∙ ap (λ xs. xs ++ item.offset ∷ []) (groups_offsets before)
      | false ↦ groups_offsets before
    ]

-- what a later item changes at an offset
names_later : (naming : Naming) (item : ItemValue) (items : List ItemValue) (offset : ℕ) → offset ≤ item.offset → names_at naming offset (item ∷ items) ≡ names_at naming offset items
names_later naming item items offset l =
    let late : nat_lt item.offset offset ≡ false = le-ltb _ _ l in
    ap (λ b. names_made naming (since_main (cond b (item ∷ before_offset offset items) (before_offset offset items)))) late

all_later : (test : List ItemValue → ItemValue → Bool) (naming : Naming) (item : ItemValue) (items xs : List ItemValue) → AreBefore item.offset xs
    → map (λ o. names_at naming o (item ∷ items)) (offsets test xs) ≡ map (λ o. names_at naming o items) (offsets test xs)
unfolding offsets
all_later test naming item items [] b = refl
all_later test naming item items (x ∷ xs) b =
    let f : ℕ → List (ℕ × ℕ) = λ o. names_at naming o (item ∷ items) in
    let g : ℕ → List (ℕ × ℕ) = λ o. names_at naming o items in
    let ih : map f (offsets test xs) ≡ map g (offsets test xs) = all_later test naming item items xs b.1 in
    let here : f x.offset ≡ g x.offset = names_later naming item items x.offset (let l = b.0 in omega (arith, l)) in
    elim (test xs x) as (λ t. map f (cond t (offsets test xs ++ x.offset ∷ []) (offsets test xs)) ≡ map g (cond t (offsets test xs ++ x.offset ∷ []) (offsets test xs))) [
      | true ↦ map-append f (offsets test xs) (x.offset ∷ []) ∙ ap (λ ys. ys ++ f x.offset ∷ []) ih ∙ ap (λ y. map g (offsets test xs) ++ y ∷ []) here
          ∙ sym (map-append g (offsets test xs) (x.offset ∷ []))
      | false ↦ ih
    ]

names_here : (naming : Naming) (item : ItemValue) (before : List ItemValue) → AreBefore item.offset before → names_made naming (since_main before) ≡ names_at naming item.offset (item ∷ before)
names_here naming item before b =
    sym (names_later naming item before item.offset (omega arith) ∙ ap (λ xs. names_made naming (since_main xs)) (before_all item.offset before b))

names_are : (test : List ItemValue → ItemValue → Bool) (naming : Naming) (items : List ItemValue) → AreInOrder items
    → names_given test naming items ≡ map (λ o. names_at naming o items) (offsets test items)
unfolding names_given offsets
names_are test naming [] o = refl
names_are test naming (item ∷ before) o =
    let f : ℕ → List (ℕ × ℕ) = λ offset. names_at naming offset (item ∷ before) in
    let own : List (ℕ × ℕ) = names_made naming (since_main before) in
    let ih : names_given test naming before ≡ map f (offsets test before) = names_are test naming before o.1 ∙ sym (all_later test naming item before before o.0) in
    elim (test before item) as (λ t. cond t (names_given test naming before ++ own ∷ []) (names_given test naming before) ≡ map f (cond t (offsets test before ++ item.offset ∷ []) (offsets test before))) [
      | true ↦ ap (λ xs. xs ++ own ∷ []) ih ∙ ap (λ x. map f (offsets test before) ++ x ∷ []) (names_here naming item before o.0)
          ∙ sym (map-append f (offsets test before) (item.offset ∷ []))
      | false ↦ ih
    ]

at_place : (naming : Naming) (items : List ItemValue) (all : List ℕ) (place : ℕ) → given_at (map (λ o. names_at naming o items) all) place ≡ names_if naming items (slice_get all place)
at_place naming items [] place = refl
at_place naming items (o ∷ all) zero = refl
at_place naming items (o ∷ all) (suc place) = at_place naming items all place

pub field_names_are : (naming : Naming) (text : Bytes) (place : ℕ) → given_at (names_given has_place naming (all_items text)) place ≡ field_names naming (all_items text) place
field_names_are naming text place =
    let items = all_items text in
    ap (λ given. given_at given place) (names_are has_place naming items (all_in_order text)) ∙ at_place naming items (offsets has_place items) place
    ∙ ap (names_if naming items) (ap (λ all. slice_get all place) (sym (details_offsets items)) ∙ slice_get-map (λ (d : Detail). d.offset) (details items) place)

pub collection_names_are : (naming : Naming) (text : Bytes) (number : ℕ) → given_at (names_given is_group naming (all_items text)) number ≡ collection_names naming (all_items text) number
collection_names_are naming text number =
    let items = all_items text in
    ap (λ given. given_at given number) (names_are is_group naming items (all_in_order text)) ∙ at_place naming items (offsets is_group items) number
    ∙ ap (names_if naming items) (ap (λ all. slice_get all number) (sym (groups_offsets items)) ∙ slice_get-map (λ (c : Group). c.offset) (collections items) number)
