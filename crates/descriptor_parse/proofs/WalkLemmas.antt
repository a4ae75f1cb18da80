-- The usages of ranges one by one.
use Rattle.std.proofs.lemmas.Grind.{common_steps}
use Rattle.std.proofs.Common.{◌≡◌, ℕ, suc, ◌+◌, ◌-◌, ◌<◌, ◌≤◌, List, [], ◌∷◌, ◌++◌, length, take, drop, get_or, length-drop, arith, refl, sym, ◌∙◌, ap, inl, inr}
use Rattle.std.specs.Prelude.{Bool, true, false, nat_le, if◌then◌else◌}
use Rattle.std.proofs.lemmas.Bool.{cases_lt, lt-leb, le-leb}
use Rattle.std.proofs.lemmas.List.{take_all}
use Rattle.descriptor_parse.specs.Descriptor.{count_up, usage_list}
use Rattle.descriptor_parse.proofs.UsageLemmas.{next_range, list_cons}

-- ---- numbers in a row

pub up-none : (first n : ℕ) → n ≡ 0 → count_up first n ≡ []
unfolding count_up
up-none first n e = rw e refl

pub up-more : (first n m : ℕ) → n ≡ suc m → count_up first n ≡ first ∷ count_up (first + 1) m
unfolding count_up
up-more first n m e = rw e refl

-- ---- a range in hand

abbrev pub hand : ℕ → ℕ → Bool → List ℕ
hand next last some = count_up next (if some then last + 1 - next else 0)

pub hand-none : (next last : ℕ) (some : Bool) → some ≡ false → hand next last some ≡ []
hand-none next last some e = rw e (up-none next 0 refl)

pub hand-range : (first last : ℕ) → hand first last (nat_le first last) ≡ count_up first (last + 1 - first)
hand-range first last = elim (cases_lt last first) [
  | inl none ↦ rw (lt-leb first last none) (let z : last + 1 - first ≡ 0 = omega arith in up-none first 0 refl ∙ sym (up-none first (last + 1 - first) z))
  | inr some ↦ rw (le-leb first last some) refl
]

pub hand-more : (next last : ℕ) (some : Bool) → some ≡ true → next < last → hand next last some ≡ next ∷ hand (next + 1) last some
hand-more next last some e l = rw e (up-more next (last + 1 - next) (last + 1 - (next + 1)) (omega arith))

pub hand-last : (next last : ℕ) (some : Bool) → some ≡ true → next ≤ last → last ≤ next → hand next last some ≡ next ∷ hand next last false
hand-last next last some e low high = rw e (up-more next (last + 1 - next) 0 (omega arith) ∙ ap (λ xs. next ∷ xs) (up-none (next + 1) 0 refl ∙ sym (up-none next 0 refl)))

-- ---- ranges

pub no-ranges : (ranges : List (ℕ × ℕ)) → length ranges ≡ 0 → usage_list ranges ≡ []
unfolding usage_list
no-ranges ranges h1 = grind (arith, common_steps)

pub front-range : (ranges : List (ℕ × ℕ)) → 0 < length ranges
    → usage_list ranges ≡ count_up (get_or ranges 0 (0, 0)).0 ((get_or ranges 0 (0, 0)).1 + 1 - (get_or ranges 0 (0, 0)).0) ++ usage_list (take (length ranges - 1) (drop 1 ranges))
front-range ranges l =
    let all : take (length ranges - 1) (drop 1 ranges) ≡ drop 1 ranges = take_all (length ranges - 1) (drop 1 ranges) (omega (arith, length-drop 1 ranges)) in
    rw all (ap usage_list (next_range ranges 0 l) ∙ list_cons (get_or ranges 0 (0, 0)) (drop 1 ranges))
