-- The collections outwards from one, as a list.
use Rattle.std.proofs.Common.{◌≡◌, ℕ, zero, suc, ◌+◌, ◌-◌, ◌<◌, ◌≤◌, List, [], ◌∷◌, ◌++◌, length, take, refl, arith, ◌∙◌, ap, Some, None, inl, inr, reverse}
use Rattle.std.proofs.lemmas.List.{reverse-append}
use Rattle.std.proofs.lemmas.Option.{slice_get_cases}
use Rattle.std.specs.Prelude.{find, slice_get, Option}
use Rattle.descriptor_parse.specs.Items.{ItemValue}
use Rattle.field_details.specs.declared.collection.Collection.{Collection as Group}
use Rattle.field_details.specs.Collections.{collections}
use Rattle.field_details.specs.Details.{details}
use Rattle.field_details.specs.Around.{around, application, is_application, inside_in}
use Rattle.field_details.specs.representation.Around.{outer_in, height}
use Rattle.field_details.specs.representation.Asked.{outwards, all_outwards, application_in}
use Rattle.field_details.proofs.AroundLemmas.{IsChain, chain_around, lower}

-- room for more of them changes nothing
outwards_enough : (n m : ℕ) (groups : List Group) (next : Option ℕ) → height next ≤ n → height next ≤ m → outwards n groups next ≡ outwards m groups next
outwards_enough n m groups None a b = refl
outwards_enough zero m groups (Some x) a b = absurd (omega arith)
outwards_enough (suc n) zero groups (Some x) a b = absurd (omega arith)
outwards_enough (suc n) (suc m) groups (Some x) a b =
    let l : height (outer_in groups x) < x + 1 = lower groups x in
    ap (λ ys. x ∷ ys) (outwards_enough n m groups (outer_in groups x) (omega arith) (omega arith))

pub outwards_more : (groups : List Group) (x : ℕ) → all_outwards groups (Some x) ≡ x ∷ all_outwards groups (outer_in groups x)
outwards_more groups x =
    let e : x + 1 ≡ suc x = omega arith in
    let l : height (outer_in groups x) < x + 1 = lower groups x in
    ap (λ n. outwards n groups (Some x)) e ∙ ap (λ ys. x ∷ ys) (outwards_enough x (height (outer_in groups x)) groups (outer_in groups x) (omega arith) (omega arith))

chain_outwards : (groups : List Group) (next : Option ℕ) (xs : List ℕ) → IsChain groups next xs → all_outwards groups next ≡ xs
chain_outwards groups next [] c = ap (all_outwards groups) c
chain_outwards groups next (x ∷ xs) c = ap (all_outwards groups) c.0 ∙ outwards_more groups x ∙ ap (λ ys. x ∷ ys) (chain_outwards groups (outer_in groups x) xs c.2)

-- those of a data item are all that are around it
pub outwards_around : (items : List ItemValue) (place : ℕ) → all_outwards (collections items) (inside_in (details items) place) ≡ reverse (around items place)
outwards_around items place = chain_outwards (collections items) (inside_in (details items) place) (reverse (around items place)) (chain_around items place)

pub application_is : (items : List ItemValue) (place : ℕ) → application_in (details items) (collections items) place ≡ application items place
application_is items place = ap (find (is_application (collections items))) (outwards_around items place)

-- ---- how many they are

outwards_few : (n : ℕ) (groups : List Group) (next : Option ℕ) → length (outwards n groups next) ≤ n
outwards_few n groups None = omega arith
outwards_few zero groups (Some x) = omega arith
outwards_few (suc n) groups (Some x) = let l : length (outwards n groups (outer_in groups x)) ≤ n = outwards_few n groups (outer_in groups x) in omega arith

outer_low : (groups : List Group) (x : ℕ) → height (outer_in groups x) ≤ length groups
outer_low groups x =
    elim (slice_get_cases groups x).1 [
      | inl some ↦ (let w : x < length groups = some.1 in let l : height (outer_in groups x) < x + 1 = lower groups x in omega arith)
      | inr none ↦ rw none.1 (omega arith)
    ]

pub depth_few : (groups : List Group) (next : Option ℕ) → length (all_outwards groups next) ≤ length groups + 1
depth_few groups None = omega arith
depth_few groups (Some x) =
    let more : length (all_outwards groups (Some x)) ≡ length (all_outwards groups (outer_in groups x)) + 1 = ap length (outwards_more groups x) ∙ omega arith in
    let few : length (all_outwards groups (outer_in groups x)) ≤ height (outer_in groups x) = outwards_few (height (outer_in groups x)) groups (outer_in groups x) in
    let low : height (outer_in groups x) ≤ length groups = outer_low groups x in
    omega arith

-- ---- steps along a list

pub get_step : (xs : List ℕ) (x n : ℕ) → 0 < n → slice_get (x ∷ xs) n ≡ slice_get xs (n - 1)
get_step xs x zero some = absurd (omega arith)
get_step xs x (suc n) some = let e : suc n - 1 ≡ n = omega arith in rw e refl

take_more : (xs : List ℕ) (n x : ℕ) → slice_get xs n ≡ Some x → take (suc n) xs ≡ take n xs ++ x ∷ []
take_more [] n x e = cc
take_more (y ∷ xs) zero x e = let same : y ≡ x = cc in rw same refl
take_more (y ∷ xs) (suc n) x e = ap (λ ys. y ∷ ys) (take_more xs n x e)

-- the last of those that are left is given first
pub turned_more : (xs : List ℕ) (n x : ℕ) → slice_get xs n ≡ Some x → reverse (take (suc n) xs) ≡ x ∷ reverse (take n xs)
turned_more xs n x e = ap reverse (take_more xs n x e) ∙ reverse-append (take n xs) (x ∷ [])

pub some_left : (n : ℕ) → (n ≡ 0 → ⊥) → 0 < n
some_left zero f = absurd (f refl)
some_left (suc n) f = omega arith
