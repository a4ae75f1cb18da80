-- The data items of fields, by their places.
use Rattle.std.proofs.Common.{◌≡◌, ℕ, suc, ◌+◌, Bool, List, [], ◌∷◌, ◌++◌, arith, refl, sym, ◌∙◌, ap, inl, inr, Some, None}
use Rattle.std.specs.Prelude.{Option, slice_get, map, filter, All}
use Rattle.std.specs.Option.{option_map}
use Rattle.std.proofs.lemmas.Bool.{cases_Bool}
use Rattle.std.proofs.lemmas.List.Elements.{All-filter, All-nil, All-cons}
use Rattle.std.proofs.lemmas.Option.{none-some, same_Some, slice_get-map, slice_get_within, get_or_from_slice_get}
use Rattle.field_details.specs.declared.detail.Detail.{Detail}
use Rattle.field_details.specs.AsFields.{is_of_data, field_of, as_counted}
use Rattle.field_details.specs.Details.{details}
use Rattle.field_details.specs.Reports.{numbered, data_fields}
use Rattle.field_details.proofs.FieldLemmas.{are_reported}
use Rattle.descriptor_parse.specs.Items.{ItemValue}
use Rattle.descriptor_parse.specs.Fields.{fields}
use Rattle.report_read.specs.Items.{places_of, can_be_null, null_states_of}

-- ---- the item of a field

-- an element of a numbered list stands at its number in the whole list
numbered_at : {A : Type 0} (whole xs : List A) (n : ℕ) → ((k : ℕ) → slice_get whole (n + k) ≡ slice_get xs k) → All (λ (p : ℕ × A). slice_get whole p.0 ≡ Some p.1) (numbered n xs)
numbered_at {A = A} whole [] n h = All-nil (λ (p : ℕ × A). slice_get whole p.0 ≡ Some p.1)
numbered_at {A = A} whole (x ∷ xs) n h =
    let z : n + 0 ≡ n = omega arith in
    let here : slice_get whole n ≡ Some x = rw z at (h 0) in
    let more : (k : ℕ) → slice_get whole (n + 1 + k) ≡ slice_get xs k = (λ k. let s : n + suc k ≡ n + 1 + k = omega arith in rw s at (h (suc k))) in
    All-cons (λ (p : ℕ × A). slice_get whole p.0 ≡ Some p.1) (n, x) (numbered (n + 1) xs) here (numbered_at whole xs (n + 1) more)

told_at : (details : List Detail) (number : ℕ) (p : ℕ × Detail) → slice_get (data_fields details) number ≡ Some p → slice_get details p.0 ≡ Some p.1
told_at details number p e =
    let all = All-filter (λ (q : ℕ × Detail). is_of_data q.1) (λ q. slice_get details q.0 ≡ Some q.1) (numbered 0 details) (numbered_at details details 0 (λ k. let z : 0 + k ≡ k = omega arith in ap (slice_get details) z)) in
    rw (get_or_from_slice_get (data_fields details) number p p e) at (all number p (slice_get_within (data_fields details) number p e))

mapped_some : {A B : Type 0} (f : A → B) (o : Option A) (y : B) → option_map f o ≡ Some y → (x : A) × (o ≡ Some x) × (f x ≡ y)
mapped_some f None y e = absurd (none-some y e)
mapped_some f (Some x) y e = (x, refl, same_Some (f x) y e)

mapped_none : {A B : Type 0} (f : A → B) (o : Option A) → option_map f o ≡ None → o ≡ None
mapped_none f None e = refl
mapped_none f (Some x) e = absurd (none-some (f x) (sym e))

some_item : (details : List Detail) (number place : ℕ) → slice_get (places_of details) number ≡ Some place
    → (detail : Detail) × (slice_get (data_fields details) number ≡ Some (place, detail)) × (slice_get details place ≡ Some detail)
unfolding places_of
some_item details number place e =
    let got = mapped_some (λ (p : ℕ × Detail). p.0) (slice_get (data_fields details) number) place (sym (slice_get-map (λ (p : ℕ × Detail). p.0) (data_fields details) number) ∙ e) in
    let at = told_at details number got.0 got.1 in
    (got.0.1, got.1 ∙ ap (λ n. Some (n, got.0.1)) got.2, rw got.2 at at)

pub placed_at : (details : List Detail) (places : List ℕ) (number place : ℕ) → places ≡ places_of details → slice_get places number ≡ Some place
    → option_map (λ (detail : Detail). (place, detail)) (slice_get details place) ≡ slice_get (data_fields details) number
placed_at details places number place same at =
    let got = some_item details number place (rw same at at) in
    ap (option_map (λ (detail : Detail). (place, detail))) got.2 ∙ sym got.1

pub placed_past : (details : List Detail) (places : List ℕ) (number : ℕ) → places ≡ places_of details → slice_get places number ≡ None
    → None ≡ slice_get (data_fields details) number
unfolding places_of
placed_past details places number same past =
    sym (mapped_none (λ (p : ℕ × Detail). p.0) (slice_get (data_fields details) number) (sym (slice_get-map (λ (p : ℕ × Detail). p.0) (data_fields details) number) ∙ ap (λ xs. slice_get xs number) (sym same) ∙ past))

-- ---- lists of what the items of all fields say, as they begin

pub places_start : (details : List Detail) (listed : List ℕ) (left made : List (ℕ × Detail)) → listed ≡ [] → left ≡ made → made ≡ data_fields details
    → listed ++ map (λ p. p.0) left ≡ places_of details
unfolding places_of
places_start details listed left made e l m = rw (e, l, m) refl

pub null_states_start : (details : List Detail) (listed : List Bool) (left made : List (ℕ × Detail)) → listed ≡ [] → left ≡ made → made ≡ data_fields details
    → listed ++ map (λ p. can_be_null p.1) left ≡ null_states_of details
unfolding null_states_of
null_states_start details listed left made e l m = rw (e, l, m) refl

-- ---- what the items of all fields declare

kept_numbered : {A B : Type 0} (f : A → B) (test : A → Bool) (n : ℕ) (xs : List A)
    → map (λ (p : ℕ × A). f p.1) (filter (λ (p : ℕ × A). test p.1) (numbered n xs)) ≡ map f (filter test xs)
kept_numbered f test n [] = refl
kept_numbered f test n (x ∷ xs) = elim (cases_Bool (test x)) [
  | inl t ↦ rw t (ap (λ ys. f x ∷ ys) (kept_numbered f test (n + 1) xs))
  | inr t ↦ rw t (kept_numbered f test (n + 1) xs)
]

pub items_declare : (items : List ItemValue) → map (λ (p : ℕ × Detail). field_of p.1) (data_fields (details items)) ≡ map as_counted (fields items)
items_declare items = kept_numbered field_of is_of_data 0 (details items) ∙ are_reported items
