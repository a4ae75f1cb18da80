-- Controls that have a usage, counted.
use Rattle.std.proofs.Common.{◌≡◌, ◌≢◌, ℕ, zero, suc, ◌+◌, ◌-◌, ◌<◌, ◌≤◌, Bool, true, false, List, [], ◌∷◌, ◌++◌, length, length-append, take, drop, get_or, drop-cons, arith, refl, sym, ◌∙◌, ap, inl, inr, Some, None}
use Rattle.std.specs.Prelude.{Option, MatchOption, ◌==◌, if◌then◌else◌, slice_get, find, flat_map, map, is_some}
use Rattle.std.proofs.lemmas.Bool.{eq-eqb, ne_eqb, lt-ltb, le-ltb}
use Rattle.std.proofs.lemmas.Option.{slice_get_cases, slice_get_past, slice_get_within, slice_get-get_or, get_or_from_slice_get, same_Some}
use Rattle.std.proofs.lemmas.List.{append-nil, take_all, take_more, take-append-drop}
use Rattle.std.proofs.lemmas.List.Concat.{get_or-flat_map}
use Rattle.std.proofs.lemmas.List.Folds.{length-flat_map-take, find-append}
use Rattle.std.proofs.lemmas.List.Sums.{position_or_len_is}
use Rattle.descriptor_parse.specs.declared.field.Field.{Field}
use Rattle.descriptor_parse.specs.Descriptor.{DescriptorValue, ranges_at, usage_list, usage_of_place}
use Rattle.field_values.specs.Lists.{IsFirst, IsUnlisted}
use Rattle.report_write.specs.declared.kept.Kept.{Kept}
use Rattle.report_write.specs.declared.control.Control.TheVariants.{Place, Usage}
use Rattle.report_write.specs.Controls.{is_usage, number_of, places_with, controls_in, controls}

-- ---- a usage in a list

differs : (usages : List ℕ) (usage k : ℕ) → k < length usages → slice_get usages k ≢ Some usage → (get_or usages k 0 == usage) ≡ false
differs usages usage k l n = ne_eqb (get_or usages k 0) usage (λ e. n (slice_get-get_or usages k 0 l ∙ ap Some e))

pub listed_first : (usages : List ℕ) (usage number : ℕ) → IsFirst usages usage number → number_of usages usage ≡ Some number
listed_first usages usage number f =
    let within : number < length usages = slice_get_within usages number usage f.here in
    let here : (get_or usages number 0 == usage) ≡ true = eq-eqb _ _ (get_or_from_slice_get usages number usage 0 f.here) in
    let is = position_or_len_is (λ other. other == usage) usages number 0 (omega arith) (λ k l. differs usages usage k (omega arith) (f.first k l)) (λ _. here) in
    rw (is, lt-ltb number (length usages) within) refl

pub not_listed : (usages : List ℕ) (usage : ℕ) → IsUnlisted usages usage → number_of usages usage ≡ None
not_listed usages usage n =
    let is = position_or_len_is (λ other. other == usage) usages (length usages) 0 (omega arith) (λ k l. differs usages usage k l (n k)) (λ l. absurd (omega arith)) in
    rw (is, le-ltb (length usages) (length usages) (omega arith)) refl

pub listed_is : (usages : List ℕ) (usage : ℕ) (r : Option ℕ) → MatchOption r (IsUnlisted usages usage) (IsFirst usages usage) → number_of usages usage ≡ r
listed_is usages usage None h = not_listed usages usage h
listed_is usages usage (Some number) h = listed_first usages usage number h

-- ---- places that have a usage

places_step : (field : Field) (usages : List ℕ) (usage place : ℕ) → places_with field usages usage (place + 1)
    ≡ places_with field usages usage place ++ (if is_usage usage (usage_of_place field usages place) then place ∷ [] else [])
unfolding places_with
places_step field usages usage place = let e : place + 1 ≡ suc place = omega arith in rw e refl

pub no_place : (field : Field) (usages : List ℕ) (usage : ℕ) → length (places_with field usages usage 0) ≡ 0
unfolding places_with
no_place field usages usage = refl

pub with_usage : (field : Field) (usages : List ℕ) (usage place : ℕ) → is_usage usage (usage_of_place field usages place) ≡ true
    → length (places_with field usages usage (place + 1)) ≡ length (places_with field usages usage place) + 1
with_usage field usages usage place e =
    ap length (places_step field usages usage place) ∙ rw e (length-append (places_with field usages usage place) (place ∷ []))

pub without_usage : (field : Field) (usages : List ℕ) (usage place : ℕ) → is_usage usage (usage_of_place field usages place) ≡ false
    → length (places_with field usages usage (place + 1)) ≡ length (places_with field usages usage place)
without_usage field usages usage place e =
    ap length (places_step field usages usage place) ∙ rw e (ap length (append-nil (places_with field usages usage place)))

-- an element of two lists in a row
in_front : {X : Type 0} (xs ys : List X) (k : ℕ) → k < length xs → slice_get (xs ++ ys) k ≡ slice_get xs k
in_front [] ys k l = absurd (omega arith)
in_front (x ∷ xs) ys zero l = refl
in_front (x ∷ xs) ys (suc k) l = in_front xs ys k (omega arith)

at_seam : {X : Type 0} (xs : List X) (y : X) (k : ℕ) → k ≡ length xs → slice_get (xs ++ y ∷ []) k ≡ Some y
at_seam [] y k e = rw e refl
at_seam (x ∷ xs) y zero e = absurd (omega arith)
at_seam (x ∷ xs) y (suc k) e = at_seam xs y k (omega arith)

-- places that are counted stay where they are
places_stay : (field : Field) (usages : List ℕ) (usage place k i : ℕ) → i < length (places_with field usages usage place)
    → (slice_get (places_with field usages usage (place + k)) i ≡ slice_get (places_with field usages usage place) i)
    × (i < length (places_with field usages usage (place + k)))
places_stay field usages usage place zero i l = let e : place + 0 ≡ place = omega arith in rw e (refl, l)
places_stay field usages usage place (suc k) i l =
    let e : place + suc k ≡ place + k + 1 = omega arith in
    let before = places_stay field usages usage place k i l in
    let more = if is_usage usage (usage_of_place field usages (place + k)) then (place + k) ∷ [] else [] in
    let step = places_step field usages usage (place + k) in
    let long = length-append (places_with field usages usage (place + k)) more in
    rw (e, step) (in_front (places_with field usages usage (place + k)) more i before.1 ∙ before.0, omega (arith, long, before.1))

pub place_found : (field : Field) (usages : List ℕ) (usage place count number : ℕ) → place < count → is_usage usage (usage_of_place field usages place) ≡ true
    → number ≡ length (places_with field usages usage place) → slice_get (places_with field usages usage count) number ≡ Some place
place_found field usages usage place count number l e n =
    let rest : place + 1 + (count - (place + 1)) ≡ count = omega arith in
    let step = places_step field usages usage place in
    let one : places_with field usages usage (place + 1) ≡ places_with field usages usage place ++ place ∷ [] = step ∙ rw e refl in
    let long = with_usage field usages usage place e in
    let stays = places_stay field usages usage (place + 1) (count - (place + 1)) number (omega arith) in
    rw rest at stays.0 ∙ rw one (at_seam (places_with field usages usage place) place number n)

-- ---- what in a field has a usage

pub one_usage : (kept : Kept) (usages : List ℕ) (usage : ℕ) → kept.field.array ≡ true → is_some (number_of usages usage) ≡ true
    → controls_in usages usage kept ≡ Usage kept usage ∷ []
one_usage kept usages usage a e = rw (a, e) refl

pub no_usage : (kept : Kept) (usages : List ℕ) (usage : ℕ) → kept.field.array ≡ true → is_some (number_of usages usage) ≡ false
    → controls_in usages usage kept ≡ []
no_usage kept usages usage a e = rw (a, e) refl

pub its_places : (kept : Kept) (usages : List ℕ) (usage : ℕ) → kept.field.array ≡ false
    → controls_in usages usage kept ≡ map (λ place. Place kept place) (places_with kept.field usages usage kept.field.count)
its_places kept usages usage a = rw a refl

pub mapped_at : {X A : Type 0} (f : X → A) (xs : List X) (i : ℕ) (x : X) → slice_get xs i ≡ Some x → slice_get (map f xs) i ≡ Some (f x)
mapped_at f [] i x e = cc
mapped_at f (y ∷ ys) zero x e = ap (λ z. Some (f z)) (same_Some _ _ e)
mapped_at f (y ∷ ys) (suc i) x e = mapped_at f ys i x e

pub controls_are : (d : DescriptorValue) (usage : ℕ) (kept : List Kept)
    → controls d usage kept ≡ flat_map (λ k. controls_in (usage_list (ranges_at d k.number)) usage k) kept
unfolding controls
controls_are d usage kept = refl

-- ---- lists in a row

pub row_found : {X A : Type 0} (f : X → List A) (xs : List X) (i left place : ℕ) (d : X) → i < length xs → left < length (f (get_or xs i d))
    → length (flat_map f (take i xs)) + left ≡ place → slice_get (flat_map f xs) place ≡ slice_get (f (get_or xs i d)) left
row_found f xs i left place d l k e =
    let found = slice_get_cases (f (get_or xs i d)) left in
    let few = length-flat_map-take f xs i d l in
    elim found.1 [
      | inl (x, _, is, at) ↦ slice_get-get_or (flat_map f xs) place x (omega (arith, few)) ∙ ap Some (rw e at (get_or-flat_map f xs i left d x l k) ∙ at) ∙ sym is
      | inr (past, _) ↦ absurd (omega arith)
    ]

pub row_past : {X A : Type 0} (f : X → List A) (xs : List X) (i left place : ℕ) → length xs ≤ i
    → length (flat_map f (take i xs)) + left ≡ place → slice_get (flat_map f xs) place ≡ None
row_past f xs i left place l e = slice_get_past (flat_map f xs) place (omega (arith, rw (take_all i xs l) at e))

-- ---- the first that passes a test

pub find_more : {X : Type 0} (test : X → Bool) (xs : List X) (i : ℕ) (d : X) → i < length xs → find test (take i xs) ≡ None
    → test (get_or xs i d) ≡ false → find test (take (i + 1) xs) ≡ None
find_more test xs i d l none fails =
    rw (take_more xs i d l, find-append test (take i xs) (get_or xs i d ∷ []), none, fails) refl

pub find_here : {X : Type 0} (test : X → Bool) (xs : List X) (i : ℕ) (d : X) → i < length xs → find test (take i xs) ≡ None
    → test (get_or xs i d) ≡ true → find test xs ≡ Some (get_or xs i d)
find_here test xs i d l none passes =
    ap (find test) (sym (take-append-drop i xs)) ∙ find-append test (take i xs) (drop i xs) ∙ rw (none, drop-cons xs i d l, passes) refl
