use Rattle.std.proofs.Common.{◌≡◌, ◌≢◌, ℕ, List, [], ◌∷◌, ◌++◌, arith, refl, sym, ◌∙◌, ap, inl, inr, pos, eqb}
use Rattle.std.specs.Prelude.{Contains, ◌↔◌}
use Rattle.std.specs.List.{dedup}
use Rattle.std.specs.List.Sorted.{IsPermutation, IsSorted, IsStrictlyIncreasing}
use Rattle.std.specs.List.Retain.{IsFiltered, DiffersFromLast}
use Rattle.std.specs.Ordering.{nat_cmp}
use Rattle.std.proofs.lemmas.List.Elements.{Contains-append_left, Contains-append_right, Contains-append_cases}
use Rattle.std.proofs.lemmas.List.Kept.{Contains-dedup_nat, Contains-from_dedup}
use Rattle.std.proofs.lemmas.List.Filters.{dedup_is}
use Rattle.std.proofs.lemmas.List.Sorted.{Contains-permutation, IsPermutation-sym}
use Rattle.std.proofs.lemmas.Map.Keys.{IsStrictlyIncreasing-dedup}
use Rattle.host_extract.specs.declared.reading.Found.{Found}
use Rattle.host_extract.specs.Pressed.{IsRead}
use Rattle.host_extract.proofs.Readings.{read-left, read-right, read-cases, one-reading}

-- the usages that are read with a value that is not 0, in any order
abbrev pub Gathers : List Found → List ℕ → Type 0
Gathers found usages = (u : ℕ) → Contains usages u ↔ IsRead found u

pub gathers-more : (found : List Found) (usages : List ℕ) (r : Found) → Gathers found usages → r.value ≢ pos 0 → Gathers (found ++ r ∷ []) (usages ++ r.usage ∷ [])
gathers-more found usages r h n u = (
  λ c. elim (Contains-append_cases usages (r.usage ∷ []) u c) [
    | inl old ↦ read-left found (r ∷ []) u ((h u).0 old)
    | inr (k, l, e) ↦ (let z : k ≡ 0 = omega arith in read-right found (r ∷ []) u (r, (0, omega arith, refl), rw z at e, n))
  ],
  λ c. elim (read-cases found (r ∷ []) u c) [
    | inl old ↦ Contains-append_left usages (r.usage ∷ []) u ((h u).1 old)
    | inr (x, m, e, v) ↦ Contains-append_right usages (r.usage ∷ []) u (0, omega arith, ap (λ y. y.usage) (one-reading r x m) ∙ e)
  ],
)

pub gathers-less : (found : List Found) (usages : List ℕ) (r : Found) → Gathers found usages → r.value ≡ pos 0 → Gathers (found ++ r ∷ []) usages
gathers-less found usages r h z u = (
  λ c. read-left found (r ∷ []) u ((h u).0 c),
  λ c. elim (read-cases found (r ∷ []) u c) [
    | inl old ↦ (h u).1 old
    | inr (x, m, e, v) ↦ absurd (v (sym (ap (λ y. y.value) (one-reading r x m)) ∙ z))
  ],
)

pub once_rising : (usages sorted out : List ℕ) → IsPermutation usages sorted → IsSorted nat_cmp sorted
    → IsFiltered (DiffersFromLast eqb) [] sorted out → IsStrictlyIncreasing out
once_rising usages sorted out p s f = rw (dedup_is eqb sorted out f) (IsStrictlyIncreasing-dedup sorted s)

pub once_members : (usages sorted out : List ℕ) → IsPermutation usages sorted → IsSorted nat_cmp sorted
    → IsFiltered (DiffersFromLast eqb) [] sorted out → (u : ℕ) → Contains out u ↔ Contains usages u
once_members usages sorted out p s f u =
    let d : out ≡ dedup eqb sorted = dedup_is eqb sorted out f in (
      λ c. Contains-permutation sorted usages u (IsPermutation-sym usages sorted p) (Contains-from_dedup eqb sorted u (rw d at c)),
      λ c. rw d (Contains-dedup_nat sorted u (Contains-permutation usages sorted u p c)),
    )
