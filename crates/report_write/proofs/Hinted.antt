-- A usage that is looked for from a field on, and in each from a range on.
use Rattle.std.proofs.Common.{◌≡◌, ◌≢◌, ℕ, zero, suc, ◌+◌, ◌-◌, ◌<◌, ◌≤◌, false, List, [], ◌∷◌, ◌++◌, length, take, drop, get_or, arith, refl, sym, ◌∙◌, ap, inl, inr, Some, None}
use Rattle.std.specs.Prelude.{◌⊎◌, Option, min, slice_get, slice_index_or, flat_map, map, is_some}
use Rattle.std.proofs.lemmas.Bool.{cases_lt, cases_Bool, ne_eqb, lt-ltb, le-ltb}
use Rattle.std.proofs.lemmas.List.Concat.{flat_map-cons}
use Rattle.std.proofs.lemmas.List.{append-nil, take_all, drop_all}
use Rattle.std.proofs.lemmas.Option.{same_Some}
use Rattle.descriptor_parse.specs.declared.field.Field.{Field}
use Rattle.descriptor_parse.specs.Descriptor.{DescriptorValue, ranges_at, usage_list, usage_of_place}
use Rattle.field_values.specs.Lists.{IsUnlisted}
use Rattle.field_values.specs.representation.Ranges.{AreWithout}
use Rattle.field_values.proofs.Listing.{past_upto, all_past}
use Rattle.report_write.specs.declared.kept.Kept.{Kept}
use Rattle.report_write.specs.declared.control.Control.TheVariants.{Place}
use Rattle.report_write.specs.Controls.{is_usage, places_with, controls_in}
use Rattle.report_write.specs.representation.Hints.{least_of, IsFrom, AreFrom, AreHints}
use Rattle.report_write.specs.representation.Walks.{IsPlaceOf}
use Rattle.report_write.proofs.Controls.{not_listed, no_usage, its_places}
use Rattle.report_write.proofs.Walked.{counted, reach, none_yet, range_skipped}

-- ---- ranges that do not have a usage

outside : (ranges : List (ℕ × ℕ)) (usage from i : ℕ) → IsFrom ranges usage from → i < from → i < length ranges
    → (usage < (get_or ranges i (0, 0)).0) ⊎ ((get_or ranges i (0, 0)).1 < usage)
outside ranges usage from i f l m = elim (cases_lt usage (get_or ranges i (0, 0)).0) [
  | inl under ↦ inl under
  | inr least ↦ elim (cases_lt (get_or ranges i (0, 0)).1 usage) [
    | inl over ↦ inr over
    | inr most ↦ absurd (let n : from ≤ i = f i (record { within = m; least = least; most = most }) in omega arith)
  ]
]

-- the same for each range before one
pub without : (ranges : List (ℕ × ℕ)) (usage from : ℕ) → IsFrom ranges usage from → AreWithout ranges usage from
without ranges usage from f = λ range l m. outside ranges usage from range f l m

unlisted : (ranges : List (ℕ × ℕ)) (usage from : ℕ) → IsFrom ranges usage from → length ranges ≤ from → IsUnlisted (usage_list ranges) usage
unlisted ranges usage from f l =
    all_past ranges usage (length ranges) (omega arith) (past_upto ranges usage from (length ranges) (without ranges usage from f) l (omega arith))

is_not : (usage : ℕ) (found : Option ℕ) → found ≢ Some usage → is_usage usage found ≡ false
is_not usage None n = refl
is_not usage (Some other) n = ne_eqb other usage (λ e. n (ap Some e))

other_usage : (field : Field) (usages : List ℕ) (usage i : ℕ) → field.array ≡ false → IsUnlisted usages usage
    → is_usage usage (usage_of_place field usages i) ≡ false
other_usage field usages usage i variable none = elim (cases_lt i field.count) [
  | inl within ↦ rw (variable, lt-ltb i field.count within) (is_not usage (slice_get usages (min i (length usages - 1))) (none (min i (length usages - 1))))
  | inr past ↦ rw (variable, le-ltb i field.count past) refl
]

no_places : (field : Field) (usages : List ℕ) (usage n : ℕ) → ((i : ℕ) → is_usage usage (usage_of_place field usages i) ≡ false)
    → places_with field usages usage n ≡ []
unfolding places_with
no_places field usages usage zero none = refl
no_places field usages usage (suc n) none = rw (no_places field usages usage n none, none n) refl

-- a field that does not have it
none_in : (kept : Kept) (ranges : List (ℕ × ℕ)) (usage from : ℕ) → IsFrom ranges usage from → length ranges ≤ from → controls_in (usage_list ranges) usage kept ≡ []
none_in kept ranges usage from f l =
    let none = unlisted ranges usage from f l in
    elim (cases_Bool kept.field.array) [
      | inl array ↦ no_usage kept (usage_list ranges) usage array (ap is_some (not_listed (usage_list ranges) usage none))
      | inr variable ↦ (its_places kept (usage_list ranges) usage variable
          ∙ ap (map (λ place. Place kept place)) (no_places kept.field (usage_list ranges) usage kept.field.count
          (λ i. other_usage kept.field (usage_list ranges) usage i variable none)))
    ]

row_none : {X A : Type 0} (f : X → List A) (xs : List X) (n : ℕ) → ((i : ℕ) (x : X) → i < n → slice_get xs i ≡ Some x → f x ≡ [])
    → length (flat_map f (take n xs)) ≡ 0
row_none f [] zero h = refl
row_none f [] (suc n) h = refl
row_none f (x ∷ xs) zero h = refl
row_none f (x ∷ xs) (suc n) h =
    let first : f x ≡ [] = h 0 x (omega arith) refl in
    rw (flat_map-cons f x (take n xs), first) (row_none f xs n (λ i y l at. h (suc i) y (omega arith) at))

-- the fields before the one that is begun with
pub none_before : (d : DescriptorValue) (kept : List Kept) (usage field from : ℕ) → AreFrom d kept usage field from
    → length (flat_map (λ k. controls_in (usage_list (ranges_at d k.number)) usage k) (take field kept)) ≡ 0
none_before d kept usage field from f =
    row_none (λ k. controls_in (usage_list (ranges_at d k.number)) usage k) kept field
    (λ i k l at. none_in k (ranges_at d k.number) usage (length (ranges_at d k.number))
    (λ range its. absurd (let no = (f i k range at its).0 in omega (arith, no, l))) (omega arith))

-- the ranges before the one that is begun with
pub none_until : (field : Field) (ranges : List (ℕ × ℕ)) (usage from i : ℕ) → field.array ≡ false → IsFrom ranges usage from → i ≤ from → i ≤ length ranges
    → counted field (usage_list ranges) usage (reach field ranges i) ≡ 0
none_until field ranges usage from zero variable f l m = none_yet field ranges usage
none_until field ranges usage from (suc i) variable f l m =
    let on : suc i ≡ i + 1 = omega arith in
    let out = outside ranges usage from i f (omega arith) (omega arith) in
    let skip : IsPlaceOf field ranges i usage None = (elim out [
      | inl under ↦ inl under
      | inr over ↦ inr (inl over)
    ]) in
    rw on (range_skipped field ranges i usage variable (omega arith) skip ∙ none_until field ranges usage from i variable f (omega arith) (omega arith))

-- ---- numbers that were noted

-- of the first usages from one on a number was noted, and none rose
pub record IsLowered (old new : List ℕ) (first count number : ℕ) : Type 0 where
  pub long : length new ≡ length old
  pub fell : (usage : ℕ) → least_of new usage ≤ least_of old usage
  pub noted : (usage : ℕ) → first ≤ usage → usage < first + count → least_of new usage ≤ number

pub one_lowered : (old slots new : List ℕ) (first count number : ℕ) → IsLowered old slots first count number → length new ≡ length slots
    → ((usage : ℕ) → least_of new usage ≤ least_of slots usage) → least_of new (first + count) ≤ number → IsLowered old new first (count + 1) number
one_lowered old slots new first count number before e fell noted = record {
  long = e ∙ before.long;
  fell = λ usage. (let one = fell usage in let other = before.fell usage in omega (arith, one, other));
  noted = λ usage a b. (elim (cases_lt usage (first + count)) [
    | inl low ↦ (let one = fell usage in let other = before.noted usage a low in omega (arith, one, other))
    | inr high ↦ (let same : usage ≡ first + count = omega arith in rw same noted)
  ]);
}

-- of the first ranges of a field both numbers were noted, and none rose
pub record IsNoted (its : List (ℕ × ℕ)) (old_fields old_ranges fields ranges : List ℕ) (field count : ℕ) : Type 0 where
  pub long : length fields ≡ length old_fields
  pub ranges_long : length ranges ≡ length old_ranges
  pub fields_fell : (usage : ℕ) → least_of fields usage ≤ least_of old_fields usage
  pub ranges_fell : (usage : ℕ) → least_of ranges usage ≤ least_of old_ranges usage
  pub noted : (range usage : ℕ) → range < count → (slice_index_or its range (0, 0)).0 ≤ usage → usage ≤ (slice_index_or its range (0, 0)).1
      → (least_of fields usage ≤ field) × (least_of ranges usage ≤ range)

pub one_noted : (its : List (ℕ × ℕ)) (old_fields old_ranges fields ranges new_fields new_ranges : List ℕ) (field count : ℕ)
    → IsNoted its old_fields old_ranges fields ranges field count → length new_fields ≡ length fields → length new_ranges ≡ length ranges
    → ((usage : ℕ) → least_of new_fields usage ≤ least_of fields usage) → ((usage : ℕ) → least_of new_ranges usage ≤ least_of ranges usage)
    → ((usage : ℕ) → (slice_index_or its count (0, 0)).0 ≤ usage → usage ≤ (slice_index_or its count (0, 0)).1 → least_of new_fields usage ≤ field)
    → ((usage : ℕ) → (slice_index_or its count (0, 0)).0 ≤ usage → usage ≤ (slice_index_or its count (0, 0)).1 → least_of new_ranges usage ≤ count)
    → IsNoted its old_fields old_ranges new_fields new_ranges field (count + 1)
one_noted its old_fields old_ranges fields ranges new_fields new_ranges field count before lf lr ff fr nf nr = record {
  long = lf ∙ before.long;
  ranges_long = lr ∙ before.ranges_long;
  fields_fell = λ usage. (let one = ff usage in let other = before.fields_fell usage in omega (arith, one, other));
  ranges_fell = λ usage. (let one = fr usage in let other = before.ranges_fell usage in omega (arith, one, other));
  noted = λ range usage l a b. (elim (cases_lt range count) [
    | inl low ↦ (let its = before.noted range usage low a b in
        let one = ff usage in
        let other = fr usage in
        (omega (arith, one, its.0), omega (arith, other, its.1)))
    | inr high ↦ (let same : range ≡ count = omega arith in
        rw same (nf usage (rw same at a) (rw same at b), nr usage (rw same at a) (rw same at b)))
  ]);
}

-- one field more
pub more_hints : (d : DescriptorValue) (kept : List Kept) (fields ranges new_fields new_ranges : List ℕ) (count : ℕ) (k : Kept)
    → slice_get kept count ≡ Some k → AreHints d kept fields ranges count
    → ((usage : ℕ) → least_of new_fields usage ≤ least_of fields usage) → ((usage : ℕ) → least_of new_ranges usage ≤ least_of ranges usage)
    → ((range usage : ℕ) → range < length (ranges_at d k.number) → (slice_index_or (ranges_at d k.number) range (0, 0)).0 ≤ usage
    → usage ≤ (slice_index_or (ranges_at d k.number) range (0, 0)).1 → (least_of new_fields usage ≤ count) × (least_of new_ranges usage ≤ range))
    → AreHints d kept new_fields new_ranges (count + 1)
more_hints d kept fields ranges new_fields new_ranges count k here before ff fr noted = λ number other range usage l at its.
    elim (cases_lt number count) [
      | inl low ↦ (let old = before number other range usage low at its in
          let one = ff usage in
          let two = fr usage in
          (omega (arith, one, old.0), omega (arith, two, old.1)))
      | inr high ↦ (let same : number ≡ count = omega arith in
          let one : k ≡ other = same_Some _ _ (sym here ∙ (rw same at at)) in
          let its_ = rw (← one) at its in
          let new = noted range usage its_.within its_.least its_.most in
          rw same new)
    ]

-- all that a slice was is written back
pub whole : (new old : List ℕ) (len : ℕ) → length new ≡ length old → len ≡ length old → take len (new ++ drop (length new) old) ≡ new
whole new old len e l =
    let none : drop (length new) old ≡ [] = drop_all (length new) old (omega arith) in
    let all : length new ≤ len = omega arith in
    rw (none, append-nil new) (take_all len new all)
