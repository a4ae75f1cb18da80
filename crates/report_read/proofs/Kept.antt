-- Lists of usages that rise, and what only one of two has.
use Rattle.std.proofs.Common.{◌≡◌, ℕ, zero, suc, ◌<◌, ◌≤◌, Bool, true, false, List, [], ◌∷◌, length, get_or, arith, refl, sym, ◌∙◌, ap, inl, inr}
use Rattle.std.specs.Prelude.{Contains, filter, not, ◌==◌, Result, Ok, Err}
use Rattle.std.specs.Result.{is_ok}
use Rattle.std.specs.List.Sorted.{IsStrictlyIncreasing, IsBinarySearchResult}
use Rattle.std.specs.Ordering.{nat_cmp}
use Rattle.std.proofs.lemmas.Bool.{cases_Bool, cases_lt, eq-eqb, ne_eqb, eqb-true}
use Rattle.std.proofs.lemmas.List.Elements.{All-contains, All-contains_itself, All-filter, filter_passes, Contains-append_right}
use Rattle.std.proofs.lemmas.List.Folds.{list_any_at, list_any_none, Any-from_list_any}
use Rattle.std.proofs.lemmas.List.Kept.{AllPairs-from_increasing, IsStrictlyIncreasing-filter}
use Rattle.std.proofs.lemmas.List.Sorted.{searched}
use Rattle.std.proofs.lemmas.Grind.{get_or_default_zero}
use Rattle.report_read.specs.Changes.{AreRising, AreOnlyIn}
use Rattle.report_read.specs.representation.Listed.{is_listed}

-- ---- whether a list has a usage

pub listed_there : (usages : List ℕ) (usage : ℕ) → Contains usages usage → is_listed usages usage ≡ true
listed_there usages usage (k, l, e) = list_any_at (λ other. other == usage) usages k usage l (eq-eqb _ usage e)

pub there_listed : (usages : List ℕ) (usage : ℕ) → is_listed usages usage ≡ true → Contains usages usage
there_listed usages usage e =
    let (k, x, l, same, passes) = Any-from_list_any (λ other. other == usage) usages e in
    rw (sym (eqb-true x usage passes)) (k, l, same)

not_falling : (usages : List ℕ) → IsStrictlyIncreasing usages → (i j : ℕ) → i ≤ j → j < length usages → get_or usages i 0 ≤ get_or usages j 0
not_falling usages rises i j m l = elim (cases_lt i j) [
  | inl below ↦ (let less = AllPairs-from_increasing usages rises i j 0 below l in omega arith)
  | inr same ↦ (let e : i ≡ j = omega arith in rw e (omega arith))
]

pub by_search : (usages : List ℕ) (usage : ℕ) (found : Result ℕ ℕ) → IsBinarySearchResult (λ y. nat_cmp y usage) usages found → IsStrictlyIncreasing usages
    → is_ok found ≡ is_listed usages usage
by_search usages usage (Ok i) is rises =
    let (l, same) = searched usages usage (Ok i) is (not_falling usages rises) in
    sym (list_any_at (λ other. other == usage) usages i 0 l (eq-eqb _ usage same))
by_search usages usage (Err i) is rises =
    let (within, low, high) = searched usages usage (Err i) is (not_falling usages rises) in
    sym (list_any_none (λ other. other == usage) usages (λ k d l. ne_eqb _ usage (λ e. elim (cases_lt k i) [
      | inl below ↦ (let less = low k below in let same = get_or_default_zero usages k d l in absurd (omega arith))
      | inr above ↦ (let more = high k above l in let same = get_or_default_zero usages k d l in absurd (omega arith))
    ])))

-- ---- what only one of two has

kept_in : (p : ℕ → Bool) (xs : List ℕ) (u : ℕ) → Contains xs u → p u ≡ true → Contains (filter p xs) u
kept_in p [] u (k, l, e) t = absurd (omega arith)
kept_in p (x ∷ xs) u (zero, l, e) t = let passes : p x ≡ true = ap p e ∙ t in rw passes (0, omega arith, e)
kept_in p (x ∷ xs) u (suc k, l, e) t =
    let more = kept_in p xs u (k, omega arith, e) t in
    elim (cases_Bool (p x)) [
      | inl passes ↦ rw passes (Contains-append_right (x ∷ []) (filter p xs) u more)
      | inr fails ↦ rw fails more
    ]

by_not : (b : Bool) → not b ≡ true → b ≡ false
by_not true e = absurd (cc)
by_not false e = refl

not_both : {P : Type 0} (b : Bool) → b ≡ true → b ≡ false → P
not_both b x y = absurd (cc)

missing : (usages : List ℕ) (usage : ℕ) → not (is_listed usages usage) ≡ true → Contains usages usage → ⊥
missing usages usage e there = not_both (is_listed usages usage) (listed_there usages usage there) (by_not (is_listed usages usage) e)

not_there : (usages : List ℕ) (usage : ℕ) → (Contains usages usage → ⊥) → not (is_listed usages usage) ≡ true
not_there usages usage none = elim (cases_Bool (is_listed usages usage)) [
  | inl has ↦ absurd (none (there_listed usages usage has))
  | inr lacks ↦ ap not lacks
]

pub only_is : (these those ts us out : List ℕ) → AreRising these ts → AreRising those us → out ≡ filter (λ u. not (is_listed us u)) ts → AreOnlyIn these those out
only_is these those ts us out t s e =
    let p : ℕ → Bool = λ u. not (is_listed us u) in
    record {
      rising = rw e (IsStrictlyIncreasing-filter p ts t.rising);
      members = λ u. (
        λ c. (let kept = rw e at c in (
          (t.members u).0 (All-contains (Contains ts) (filter p ts) u (All-filter p (Contains ts) ts (All-contains_itself ts)) kept),
          λ other. missing us u (All-contains (λ x. p x ≡ true) (filter p ts) u (filter_passes p ts) kept) ((s.members u).1 other),
        )),
        λ (here, none). rw e (kept_in p ts u ((t.members u).1 here) (not_there us u (λ other. none ((s.members u).0 other)))),
      );
    }
