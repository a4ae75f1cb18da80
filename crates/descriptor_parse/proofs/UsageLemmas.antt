use Rattle.std.proofs.Common.{◌≡◌, ℕ, zero, suc, ◌+◌, ◌-◌, ◌<◌, ◌≤◌, min, List, [], ◌∷◌, ◌++◌, length, take, drop, get_or, refl, arith, sym, ◌∙◌, ap, false, Some, inl, inr, append_assoc, add-one, drop-cons}
use Rattle.std.specs.Prelude.{slice_get}
use Rattle.std.proofs.lemmas.Bool.{cases_Bool, lt-ltb}
use Rattle.std.proofs.lemmas.Option.{slice_get_within}
use Rattle.std.proofs.lemmas.List.{take_more}
use Rattle.descriptor_parse.specs.declared.field.Field.{Field}
use Rattle.descriptor_parse.specs.Descriptor.{count_up, usage_list, usage_of_place}

pub length_up : (first n : ℕ) → length (count_up first n) ≡ n
unfolding count_up
length_up first zero = refl
length_up first (suc n) = ap suc (length_up (first + 1) n)

up_at : (first n k : ℕ) → k < n → slice_get (count_up first n) k ≡ Some (first + k)
unfolding count_up
up_at first zero k l = absurd (omega arith)
up_at first (suc n) zero l = let e : first ≡ first + 0 = omega arith in ap Some e
up_at first (suc n) (suc k) l = up_at (first + 1) n k (omega arith) ∙ (let e : first + 1 + k ≡ first + suc k = omega arith in ap Some e)

-- an element of two lists in a row
in_front : (xs ys : List ℕ) (k : ℕ) → k < length xs → slice_get (xs ++ ys) k ≡ slice_get xs k
in_front [] ys k l = absurd (omega arith)
in_front (x ∷ xs) ys zero l = refl
in_front (x ∷ xs) ys (suc k) l = in_front xs ys k (omega arith)

pub behind : (xs ys : List ℕ) (k : ℕ) → slice_get (xs ++ ys) (length xs + k) ≡ slice_get ys k
behind [] ys k = let e : 0 + k ≡ k = omega arith in ap (slice_get ys) e
behind (x ∷ xs) ys k = let e : suc (length xs) + k ≡ suc (length xs + k) = omega arith in rw e (behind xs ys k)

-- the usages of one range and of more
pub list_cons : (range : ℕ × ℕ) (more : List (ℕ × ℕ)) → usage_list (range ∷ more) ≡ count_up range.0 (range.1 + 1 - range.0) ++ usage_list more
unfolding usage_list
list_cons range more = refl

pub list_append : (xs ys : List (ℕ × ℕ)) → usage_list (xs ++ ys) ≡ usage_list xs ++ usage_list ys
unfolding usage_list
list_append [] ys = refl
list_append (x ∷ xs) ys = ap (λ more. count_up x.0 (x.1 + 1 - x.0) ++ more) (list_append xs ys) ∙ sym (append_assoc (count_up x.0 (x.1 + 1 - x.0)) (usage_list xs) (usage_list ys))

-- a place within the first range
pub within_first : (first last : ℕ) (more : List (ℕ × ℕ)) (place : ℕ) → first ≤ last → place < last - first + 1
    → slice_get (usage_list ((first, last) ∷ more)) place ≡ Some (first + place)
within_first first last more place o l =
    let n : length (count_up first (last + 1 - first)) ≡ last + 1 - first = length_up first (last + 1 - first) in
    ap (λ xs. slice_get xs place) (list_cons (first, last) more) ∙ in_front _ (usage_list more) place (omega arith) ∙ up_at first _ place (omega arith)

-- a place past it
pub past_first : (first last : ℕ) (more : List (ℕ × ℕ)) (place : ℕ) → first ≤ last → last - first + 1 ≤ place
    → slice_get (usage_list ((first, last) ∷ more)) place ≡ slice_get (usage_list more) (place - (last - first + 1))
past_first first last more place o l =
    let n : length (count_up first (last + 1 - first)) ≡ last + 1 - first = length_up first (last + 1 - first) in
    let e : place ≡ length (count_up first (last + 1 - first)) + (place - (last - first + 1)) = omega arith in
    ap (λ xs. slice_get xs place) (list_cons (first, last) more)
    ∙ ap (slice_get (count_up first (last + 1 - first) ++ usage_list more)) e ∙ behind (count_up first (last + 1 - first)) (usage_list more) _

pub no_usages : length (usage_list []) ≡ 0
unfolding usage_list
no_usages = refl

-- the ranges from one on
pub next_range : (ranges : List (ℕ × ℕ)) (i : ℕ) → i < length ranges → drop i ranges ≡ get_or ranges i (0, 0) ∷ drop (i + 1) ranges
next_range ranges i l = rw (add-one, drop-cons ranges i (0, 0)) refl

pub one_more : (ranges : List (ℕ × ℕ)) (i : ℕ) → i < length ranges → take (i + 1) ranges ≡ take i ranges ++ get_or ranges i (0, 0) ∷ []
one_more ranges i l = take_more ranges i (0, 0) l

-- the usage of a place, by the list and its end
pub place_some : (field : Field) (usages : List ℕ) (place usage : ℕ) → (field.array ≡ false → place < field.count) → slice_get usages place ≡ Some usage
    → Some usage ≡ usage_of_place field usages place
place_some field usages place usage within found =
    let l : place < length usages = slice_get_within usages place usage found in
    elim (cases_Bool field.array) [
      | inl array ↦ (rw array (sym found))
      | inr variable ↦ (let m : min place (length usages - 1) ≡ place = omega arith in rw (variable, lt-ltb _ _ (within variable), m) (sym found))
    ]
