use Rattle.std.proofs.Common.{◌≡◌, ℕ, ◌≤◌, List, Option, Some, None, arith, subst}
use Rattle.std.specs.Prelude.{IsSomeAnd}
use Rattle.flash_model.specs.Image.{page_count}
use Rattle.settings_log.specs.Pages.{IsLost, IsWhole}
use Rattle.settings_log.specs.representation.Ring.{IsBest}

-- the newest number is the best that was found
pub lost_of_best : (image : List ℕ) (best : Option ℕ) (newest back : ℕ) → IsBest image (page_count image) best → IsLost image newest back → IsSomeAnd best (λ n. IsLost image n back)
lost_of_best image None newest back none lost =
    let held = lost.is_newest.held in
    let empty = none lost.is_newest.page lost.is_newest.in_pages in
    cc
lost_of_best image (Some n) newest back best lost =
    let a : n ≤ newest = lost.is_newest.greatest best.page n best.in_pages best.held in
    let b : newest ≤ n = best.greatest lost.is_newest.page newest lost.is_newest.in_pages lost.is_newest.held in
    let e : newest ≡ n = omega (arith, a, b) in
    let P : ℕ → Type 0 = λ m. IsLost image m back in
    subst P e lost

-- a page that is lost, and none is
pub not_kept : (image : List ℕ) (best : Option ℕ) (back : ℕ) → IsSomeAnd best (λ n. IsLost image n back) → IsWhole image → ⊥
not_kept image None back lost whole = lost
not_kept image (Some n) back lost whole = whole.kept n back lost
