-- One part more of a list.
use Rattle.std.proofs.Common.{◌≡◌, ℕ, zero, suc, ◌+◌, ◌≤◌, List, [], ◌∷◌, ◌++◌, length, take, drop, get_or, slice_get, Some, None, refl, arith, sym, ◌∙◌, ap, length-append}
use Rattle.std.specs.Prelude.{◌-◌, ◌<◌, ◌==◌, if◌then◌else◌, slice_index, unwrap_or}
use Rattle.std.proofs.lemmas.Bool.{ne_eqb}
use Rattle.std.proofs.lemmas.Grind.{get_or_default_zero}
use Rattle.std.proofs.lemmas.Option.{slice_get-get_or, slice_get_past}
use Rattle.std.proofs.lemmas.List.{take-append-le, take_all}
use Rattle.std.proofs.Math.Seq.{drop-append_seam}
use Rattle.descriptor_parse.specs.representation.Parts.{parts_from, AreEnds}

pub ends_within : (start : ℕ) (ends : List ℕ) (len : ℕ) → AreEnds start ends len → start ≤ len
ends_within start [] len e = omega arith
ends_within start (end ∷ ends) len e = let more : end ≤ len = ends_within end ends len e.1 in omega (arith, e.0)

pub ends_more : (start : ℕ) (ends : List ℕ) (len more : ℕ) → AreEnds start ends len → AreEnds start (ends ++ (len + more) ∷ []) (len + more)
ends_more start [] len more e = (omega arith, refl)
ends_more start (end ∷ ends) len more e = (e.0, ends_more end ends len more e.1)

all_taken : (xs : List (ℕ × ℕ)) (n : ℕ) → n ≡ length xs → take n xs ≡ xs
all_taken xs n e = rw e (take_all (length xs) xs (omega arith))

pub parts_more : (start : ℕ) (ends : List ℕ) (ranges more : List (ℕ × ℕ)) → AreEnds start ends (length ranges)
    → parts_from start (ends ++ (length ranges + length more) ∷ []) (ranges ++ more) ≡ parts_from start ends ranges ++ more ∷ []
unfolding parts_from
parts_more start [] ranges more e =
    let all : take (length ranges + length more) (ranges ++ more) ≡ ranges ++ more = all_taken (ranges ++ more) (length ranges + length more) (sym (length-append ranges more)) in
    rw (all, e) (ap (λ (xs : List (ℕ × ℕ)). xs ∷ []) (drop-append_seam ranges more))
parts_more start (end ∷ ends) ranges more e =
    let within : end ≤ length ranges = ends_within end ends (length ranges) e.1 in
    let front : take end (ranges ++ more) ≡ take end ranges = take-append-le end ranges more within in
    rw front (ap (λ (xs : List (List (ℕ × ℕ))). drop start (take end ranges) ∷ xs) (parts_more end ends ranges more e.1))

nothing_at : (parts : List (List (ℕ × ℕ))) (place : ℕ) → parts ≡ [] → slice_get parts place ≡ None
nothing_at parts place e = rw e refl

-- where a part starts
abbrev pub first_range : ℕ → List ℕ → ℕ → ℕ
first_range start ends zero = start
first_range start ends (suc place) = get_or ends place 0

pub part_at : (start : ℕ) (ends : List ℕ) (ranges : List (ℕ × ℕ)) (place end : ℕ) → slice_get ends place ≡ Some end
    → slice_get (parts_from start ends ranges) place ≡ Some (drop (first_range start ends place) (take end ranges))
unfolding parts_from
part_at start [] ranges place end e = cc
part_at start (first ∷ ends) ranges zero end e = let same : first ≡ end = cc in rw same refl
part_at start (first ∷ ends) ranges (suc zero) end e = part_at first ends ranges zero end e
part_at start (first ∷ ends) ranges (suc (suc place)) end e = part_at first ends ranges (suc place) end e

pub no_part : (start : ℕ) (ends : List ℕ) (ranges : List (ℕ × ℕ)) (place : ℕ) → slice_get ends place ≡ None → slice_get (parts_from start ends ranges) place ≡ None
unfolding parts_from
no_part start [] ranges place e = nothing_at [] place refl
no_part start (first ∷ ends) ranges zero e = cc
no_part start (first ∷ ends) ranges (suc place) e = no_part first ends ranges place e

pub start_is : (ends : List ℕ) (place : ℕ) → (if place == 0 then 0 else slice_index ends (place - 1)) ≡ first_range 0 ends place
start_is ends zero = refl
start_is ends (suc place) =
    let back : suc place - 1 ≡ place = omega arith in
    rw (ne_eqb (suc place) 0 (λ e. omega arith), back) refl

-- the part of a field
pub field_part : (ends : List ℕ) (ranges : List (ℕ × ℕ)) (place start end : ℕ) → place < length ends → end ≡ get_or ends place end
    → start ≡ (if place == 0 then 0 else slice_index ends (place - 1))
    → drop start (take end ranges) ≡ unwrap_or (slice_get (parts_from 0 ends ranges) place) []
field_part ends ranges place start end l e s =
    let got : slice_get ends place ≡ Some end = slice_get-get_or ends place end l ∙ ap Some (sym e) in
    rw (part_at 0 ends ranges place end got, s, start_is ends place) refl

-- no part where there is no field
pub no_field_part : (ends : List ℕ) (ranges : List (ℕ × ℕ)) (place : ℕ) → length ends ≤ place → [] ≡ unwrap_or (slice_get (parts_from 0 ends ranges) place) []
no_field_part ends ranges place l = rw (no_part 0 ends ranges place (slice_get_past ends place l)) refl

pub length_parts : (start : ℕ) (ends : List ℕ) (ranges : List (ℕ × ℕ)) → length (parts_from start ends ranges) ≡ length ends
unfolding parts_from
length_parts start [] ranges = refl
length_parts start (end ∷ ends) ranges = ap suc (length_parts end ends ranges)

ends_at : (start : ℕ) (ends : List ℕ) (len place : ℕ) → AreEnds start ends len → place < length ends → (first_range start ends place ≤ get_or ends place 0) × (get_or ends place 0 ≤ len)
ends_at start [] len place e l = absurd (omega arith)
ends_at start (end ∷ ends) len zero e l = (e.0, ends_within end ends len e.1)
ends_at start (end ∷ ends) len (suc zero) e l = ends_at end ends len zero e.1 (omega arith)
ends_at start (end ∷ ends) len (suc (suc place)) e l = ends_at end ends len (suc place) e.1 (omega arith)

-- a field's usages are in order and within all
pub field_ends : (ends : List ℕ) (len place start end d : ℕ) → AreEnds 0 ends len → place < length ends → end ≡ get_or ends place d
    → start ≡ (if place == 0 then 0 else slice_index ends (place - 1)) → (start ≤ end) × (end ≤ len)
field_ends ends len place start end d a l e s =
    let both = ends_at 0 ends len place a l in
    let order : first_range 0 ends place ≤ get_or ends place 0 = both.0 in
    let within : get_or ends place 0 ≤ len = both.1 in
    let at : start ≡ first_range 0 ends place = s ∙ start_is ends place in
    let same : end ≡ get_or ends place 0 = e ∙ get_or_default_zero ends place d l in
    (omega arith, omega arith)
