-- Controls of fields that fit.
use Rattle.std.proofs.Common.{◌≡◌, ℕ, zero, suc, ◌<◌, List, [], ◌∷◌, arith, refl, inl, inr, Some, None}
use Rattle.std.specs.Prelude.{Option, All, IfSome, ◌==◌, slice_get, find, flat_map, map, is_some}
use Rattle.std.proofs.lemmas.Bool.{cases_lt, cases_Bool, lt-ltb, le-ltb}
use Rattle.std.proofs.lemmas.Option.{slice_get_cases}
use Rattle.std.proofs.lemmas.List.Concat.{flat_map-cons}
use Rattle.std.proofs.lemmas.List.Elements.{All-nil, All-cons, All-head, All-tail, All-append, All-same, All-weaker, All-map}
use Rattle.std.proofs.lemmas.List.Folds.{find_at}
use Rattle.descriptor_parse.specs.declared.field.Field.{Field}
use Rattle.descriptor_parse.specs.Descriptor.{DescriptorValue, ranges_at, usage_list, usage_of_place}
use Rattle.report_write.specs.declared.kept.Kept.{Kept}
use Rattle.report_write.specs.declared.control.Control.TheVariants.{Place, Usage}
use Rattle.report_write.specs.declared.setting.Target.TheVariants as target
use Rattle.report_write.specs.Controls.{is_usage, number_of, places_with, controls_in, controls, control_of, place_in}
use Rattle.report_write.specs.representation.Fits.{FitsKept, FitsControl}
use Rattle.report_write.proofs.Controls.{controls_are}

pub by_usage : (d : DescriptorValue) (kept : List Kept) (usage place : ℕ)
    → control_of d kept (target.Usage usage place) ≡ slice_get (controls d usage kept) place
unfolding control_of
by_usage d kept usage place = refl

pub by_field : (d : DescriptorValue) (kept : List Kept) (field place : ℕ)
    → control_of d kept (target.Field field place) ≡ place_in place (find (λ k. k.number == field) kept)
unfolding control_of
by_field d kept field place = refl

pub one_of : {X : Type 0} (P : X → Type 0) (xs : List X) (i : ℕ) → All P xs → IfSome (slice_get xs i) P
one_of P xs i all = elim (slice_get_cases xs i).1 [
  | inl (x, l, is, at) ↦ rw is (rw at at (all i x l))
  | inr (past, none) ↦ rw none tt
]

pub all_row : {X A : Type 0} (f : X → List A) (P : X → Type 0) (Q : A → Type 0) → ((x : X) → P x → All Q (f x)) → (xs : List X) → All P xs → All Q (flat_map f xs)
all_row f P Q h [] all = All-nil Q
all_row f P Q h (x ∷ xs) all =
    rw (flat_map-cons f x xs) (All-append Q (f x) (flat_map f xs) (h x (All-head P x xs all)) (all_row f P Q h xs (All-tail P x xs all)))

places_below : (field : Field) (usages : List ℕ) (usage n : ℕ) → All (λ p. p < n) (places_with field usages usage n)
unfolding places_with
places_below field usages usage zero = All-nil _
places_below field usages usage (suc n) =
    let before = All-weaker (λ p. p < n) (λ p. p < suc n) (λ p l. omega arith) (places_with field usages usage n) (places_below field usages usage n) in
    elim (cases_Bool (is_usage usage (usage_of_place field usages n))) [
      | inl is ↦ rw is (All-append (λ p. p < suc n) (places_with field usages usage n) (n ∷ []) before (All-cons (λ p. p < suc n) n [] (omega arith) (All-nil (λ p. p < suc n))))
      | inr other ↦ rw other (All-append (λ p. p < suc n) (places_with field usages usage n) [] before (All-nil (λ p. p < suc n)))
    ]

all_in : (d : DescriptorValue) (room : ℕ) (usages : List ℕ) (usage : ℕ) (kept : Kept) → FitsKept d room kept → All (FitsControl d room) (controls_in usages usage kept)
all_in d room usages usage kept f = elim (cases_Bool kept.field.array) [
  | inl array ↦ elim (cases_Bool (is_some (number_of usages usage))) [
    | inl some ↦ (let its : controls_in usages usage kept ≡ Usage kept usage ∷ [] = rw (array, some) refl in
        let one : FitsControl d room (Usage kept usage) = (f, array) in
        All-same (FitsControl d room) _ _ its (All-cons (FitsControl d room) (Usage kept usage) [] one (All-nil (FitsControl d room))))
    | inr none ↦ (let its : controls_in usages usage kept ≡ [] = rw (array, none) refl in
        All-same (FitsControl d room) _ _ its (All-nil (FitsControl d room)))
  ]
  | inr variable ↦ (let places = places_with kept.field usages usage kept.field.count in
      let its : controls_in usages usage kept ≡ map (λ place. Place kept place) places = rw variable refl in
      All-same (FitsControl d room) _ _ its (All-map (FitsControl d room) (λ place. Place kept place) places
      (λ k e l. (f, places_below kept.field usages usage kept.field.count k e l))))
]

pub usage_fits : (d : DescriptorValue) (room : ℕ) (kept : List Kept) (usage place : ℕ) → All (FitsKept d room) kept
    → IfSome (slice_get (controls d usage kept) place) (λ c. FitsControl d room c)
usage_fits d room kept usage place all =
    rw (controls_are d usage kept) (one_of (FitsControl d room) _ place
    (all_row (λ k. controls_in (usage_list (ranges_at d k.number)) usage k) (FitsKept d room) (FitsControl d room)
    (λ k f. all_in d room (usage_list (ranges_at d k.number)) usage k f) kept all))

in_field : (d : DescriptorValue) (room place : ℕ) (found : Option Kept) → IfSome found (FitsKept d room) → IfSome (place_in place found) (λ c. FitsControl d room c)
in_field d room place None f = tt
in_field d room place (Some kept) f = elim (cases_lt place kept.field.count) [
  | inl within ↦ rw (lt-ltb place kept.field.count within) (f, within)
  | inr past ↦ rw (le-ltb place kept.field.count past) tt
]

pub place_fits : (d : DescriptorValue) (room : ℕ) (kept : List Kept) (field place : ℕ) → All (FitsKept d room) kept
    → IfSome (place_in place (find (λ k. k.number == field) kept)) (λ c. FitsControl d room c)
place_fits d room kept field place all =
    in_field d room place (find (λ k. k.number == field) kept)
    (rw (find_at (λ k. k.number == field) kept) (one_of (FitsKept d room) kept _ all))
