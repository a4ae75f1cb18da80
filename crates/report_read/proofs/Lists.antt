-- The values that are left.
use Rattle.std.proofs.Common.{◌≡◌, ℕ, zero, suc, ◌+◌, ◌-◌, ◌^◌, ◌<◌, ◌≤◌, List, [], ◌∷◌, ◌++◌, length, drop, take, get_or, arith, refl, sym, ◌∙◌, ap}
use Rattle.std.specs.Prelude.{All, map, flat_map}
use Rattle.std.proofs.lemmas.List.{take_all}
use Rattle.std.proofs.lemmas.List.Folds.{flat_map-map}
use Rattle.descriptor_parse.specs.Descriptor.{DescriptorValue, count_up}
use Rattle.report_write.specs.declared.kept.Kept.{Kept}
use Rattle.report_read.specs.declared.value.Value.{Value}
use Rattle.report_read.specs.declared.lane.Lane.{Lane}
use Rattle.report_read.specs.Values.{value_of, values_of_field}
use Rattle.report_read.specs.representation.Lanes.{IsLane, IsPlace, values_of_lanes}

-- the values from a place on
from_place : {A : Type 0} (f : ℕ → A) (first n k : ℕ) (xs : List A) → k < n
    → drop k (map f (count_up first n) ++ xs) ≡ f (first + k) ∷ drop (k + 1) (map f (count_up first n) ++ xs)
unfolding count_up
from_place f first zero k xs l = absurd (omega arith)
from_place f first (suc n) zero xs l = let e : first ≡ first + 0 = omega arith in ap (λ m. f m ∷ map f (count_up (first + 1) n) ++ xs) e
from_place f first (suc n) (suc k) xs l =
    let e : first + 1 + k ≡ first + suc k = omega arith in
    let o : suc k + 1 ≡ suc (k + 1) = omega arith in
    from_place f (first + 1) n k xs (omega arith) ∙ ap (λ m. f m ∷ drop (k + 1) (map f (count_up (first + 1) n) ++ xs)) e ∙ ap (λ m. f (first + suc k) ∷ drop m (map f (count_up first (suc n)) ++ xs)) (sym o)

past_all : {A : Type 0} (f : ℕ → A) (first n : ℕ) (xs : List A) → drop n (map f (count_up first n) ++ xs) ≡ xs
unfolding count_up
past_all f first zero xs = refl
past_all f first (suc n) xs = past_all f (first + 1) n xs

pub nothing_left : (d : DescriptorValue) (bytes : List ℕ) (lanes : List Lane) (place : ℕ) → IsPlace place lanes → length lanes ≡ 0 → drop place (values_of_lanes d bytes lanes) ≡ []
unfolding values_of_lanes
nothing_left d bytes [] place p e = rw p refl
nothing_left d bytes (lane ∷ lanes) place p e = absurd (omega arith)

pub first_value : (d : DescriptorValue) (bytes : List ℕ) (lane : Lane) (lanes : List Lane) (place : ℕ) → place < lane.kept.field.count
    → drop place (values_of_lanes d bytes (lane ∷ lanes)) ≡ value_of d bytes lane.kept place ∷ drop (place + 1) (values_of_lanes d bytes (lane ∷ lanes))
unfolding values_of_lanes
first_value d bytes lane lanes place l =
    from_place (value_of d bytes lane.kept) 0 lane.kept.field.count place (values_of_lanes d bytes lanes) l
    ∙ (let e : 0 + place ≡ place = omega arith in ap (λ m. value_of d bytes lane.kept m ∷ drop (place + 1) (values_of_lanes d bytes (lane ∷ lanes))) e)

pub last_value : (d : DescriptorValue) (bytes : List ℕ) (lane : Lane) (lanes : List Lane) (place : ℕ) → place < lane.kept.field.count → lane.kept.field.count ≤ place + 1
    → drop place (values_of_lanes d bytes (lane ∷ lanes)) ≡ value_of d bytes lane.kept place ∷ values_of_lanes d bytes lanes
unfolding values_of_lanes
last_value d bytes lane lanes place l m =
    let n : place + 1 ≡ lane.kept.field.count = omega arith in
    first_value d bytes lane lanes place l
    ∙ ap (λ k. value_of d bytes lane.kept place ∷ drop k (values_of_lanes d bytes (lane ∷ lanes))) n
    ∙ ap (λ xs. value_of d bytes lane.kept place ∷ xs) (past_all (value_of d bytes lane.kept) 0 lane.kept.field.count (values_of_lanes d bytes lanes))

pub begins : (d : DescriptorValue) (lanes : List Lane) → All (IsLane d) lanes → IsPlace 0 lanes
begins d [] all = refl
begins d (lane ∷ lanes) all = (all 0 lane (omega arith)).some

pub values_of_kept : (d : DescriptorValue) (bytes : List ℕ) (lanes : List Lane) (kept : List Kept) → map (λ lane. lane.kept) lanes ≡ kept
    → values_of_lanes d bytes lanes ≡ flat_map (values_of_field d bytes) kept
unfolding values_of_lanes
values_of_kept d bytes lanes kept e = sym (flat_map-map (values_of_field d bytes) (λ lane. lane.kept) lanes) ∙ ap (flat_map (values_of_field d bytes)) e

-- ---- a step of an iterator

pub fits_more : (d : DescriptorValue) (lanes : List Lane) (place : ℕ) → All (IsLane d) lanes → IsPlace place lanes → 1 ≤ length lanes → place + 1 < 2 ^ 16
fits_more d [] place all p l = absurd (omega arith)
fits_more d (lane ∷ lanes) place all p l = let few = (all 0 lane (omega arith)).few in omega (arith, few, p)

pub rest_of : (lanes : List Lane) → take (length lanes - 1) (drop 1 lanes) ≡ drop 1 lanes
rest_of [] = refl
rest_of (lane ∷ lanes) = take_all _ lanes (omega arith)

pub next_value : (d : DescriptorValue) (bytes : List ℕ) (lanes : List Lane) (place : ℕ) (default : Lane) (v : Value) → 1 ≤ length lanes → IsPlace place lanes
    → v ≡ value_of d bytes (get_or lanes 0 default).kept place
    → drop place (values_of_lanes d bytes lanes) ≡ v ∷ drop (place + 1) (values_of_lanes d bytes lanes)
next_value d bytes [] place default v l p e = absurd (omega arith)
next_value d bytes (lane ∷ lanes) place default v l p e =
    first_value d bytes lane lanes place p ∙ ap (λ w. w ∷ drop (place + 1) (values_of_lanes d bytes (lane ∷ lanes))) (sym e)

pub end_value : (d : DescriptorValue) (bytes : List ℕ) (lanes : List Lane) (place : ℕ) (default : Lane) (v : Value) → 1 ≤ length lanes → IsPlace place lanes
    → (get_or lanes 0 default).kept.field.count ≤ place + 1 → v ≡ value_of d bytes (get_or lanes 0 default).kept place
    → drop place (values_of_lanes d bytes lanes) ≡ v ∷ values_of_lanes d bytes (take (length lanes - 1) (drop 1 lanes))
end_value d bytes [] place default v l p m e = absurd (omega arith)
end_value d bytes (lane ∷ lanes) place default v l p m e =
    last_value d bytes lane lanes place p m ∙ ap (λ w. w ∷ values_of_lanes d bytes lanes) (sym e)
    ∙ ap (λ more. v ∷ values_of_lanes d bytes more) (sym (rest_of (lane ∷ lanes)))

-- ---- fields that are kept

pub map_push : (lanes : List Lane) (lane : Lane) → map (λ (one : Lane). one.kept) (lanes ++ lane ∷ []) ≡ map (λ (one : Lane). one.kept) lanes ++ lane.kept ∷ []
map_push [] lane = refl
map_push (one ∷ lanes) lane = ap (λ xs. one.kept ∷ xs) (map_push lanes lane)
