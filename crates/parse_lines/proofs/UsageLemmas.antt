-- Printing the usages of a field, range by range.
use Rattle.std.proofs.Common.{◌≡◌, ℕ, ◌+◌, ◌<◌, ◌≤◌, List, [], ◌∷◌, ◌++◌, length, take, get_or, refl, ap, sym, ◌∙◌, arith, codes, append-nil, add-one}
use Rattle.std.proofs.lemmas.List.{take_more, take_all, flat_map_more}
use Rattle.std.specs.List.{flat_map, IsFirstAndRest}
use Rattle.parse_lines.specs.Prints.{shown_range, shown_usages}

pub usages-none : (ranges : List (ℕ × ℕ)) → length ranges ≡ 0 → shown_usages ranges ≡ codes "-"
unfolding shown_usages
usages-none [] none = refl
usages-none (r ∷ rs) none = absurd (omega (arith, none))

pub usages-one : (all : List (ℕ × ℕ)) (first : ℕ × ℕ) (more : List (ℕ × ℕ)) → IsFirstAndRest all first more → shown_usages (take 1 all) ≡ shown_range first
unfolding shown_usages
usages-one all first more parts = rw parts.0 (append-nil (shown_range first))

take-cons : {X : Type 0} (n : ℕ) (x : X) (xs : List X) → take (n + 1) (x ∷ xs) ≡ x ∷ take n xs
take-cons n x xs = rw add-one refl

-- one range more
pub usages_more : (all : List (ℕ × ℕ)) (first : ℕ × ℕ) (more : List (ℕ × ℕ)) (i : ℕ) (d : ℕ × ℕ) → IsFirstAndRest all first more → i < length more
    → shown_usages (take (i + 1) all) ++ (44 ∷ shown_range (get_or more i d)) ≡ shown_usages (take (i + 1 + 1) all)
unfolding shown_usages
usages_more all first more i d parts l =
    let so_far : take (i + 1) all ≡ first ∷ take i more = ap (λ xs. take (i + 1) xs) parts.0 ∙ take-cons i first more in
    let later : take (i + 1 + 1) all ≡ first ∷ take (i + 1) more = ap (λ xs. take (i + 1 + 1) xs) parts.0 ∙ take-cons (i + 1) first more in
    rw (so_far, later) (flat_map_more (λ range. 44 ∷ shown_range range) (shown_range first) (take i more) (get_or more i d)
    ∙ ap (λ xs. shown_range first ++ flat_map (λ range. 44 ∷ shown_range range) xs) (sym (take_more more i d l)))

-- the last one
pub usages_all : (all : List (ℕ × ℕ)) (first : ℕ × ℕ) (more : List (ℕ × ℕ)) (i : ℕ) → IsFirstAndRest all first more → length more ≤ i
    → shown_usages (take (i + 1) all) ≡ shown_usages all
usages_all all first more i parts l = ap shown_usages (take_all (i + 1) all (omega (arith, parts.1)))
