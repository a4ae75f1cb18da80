-- The first number with which a list of ranges has a usage.
use Rattle.std.proofs.Common.{◌≡◌, ◌≢◌, ℕ, zero, suc, ◌+◌, ◌-◌, ◌<◌, ◌≤◌, List, length, take, get_or, arith, refl, sym, ◌∙◌, ap, inl, inr, Some, None}
use Rattle.std.specs.Prelude.{◌⊎◌, Option, slice_get, slice_index}
use Rattle.std.proofs.lemmas.Bool.{cases_lt}
use Rattle.descriptor_parse.specs.Descriptor.{usage_list}
use Rattle.descriptor_parse.specs.Counts.{AreCounts}
use Rattle.descriptor_parse.proofs.CountLemmas.{len_step, in_range, past_ranges}
use Rattle.descriptor_parse.proofs.UsageLemmas.{no_usages}
use Rattle.field_values.specs.Lists.{IsUnlisted, IsFirst}
use Rattle.field_values.specs.representation.Ranges.{AreWithout}

-- the first ranges do not have a usage
abbrev pub IsPast : List (ℕ × ℕ) → ℕ → ℕ → Type 0
IsPast ranges usage i = (number : ℕ) → number < length (usage_list (take i ranges)) → slice_get (usage_list ranges) number ≢ Some usage

some_same : {a b : ℕ} → Some a ≡ Some b → a ≡ b
some_same e = cc

pub none_past : (ranges : List (ℕ × ℕ)) (usage : ℕ) → IsPast ranges usage 0
none_past ranges usage number l = absurd (let z : length (usage_list (take 0 ranges)) ≡ 0 = no_usages in omega arith)

pub one_past : (ranges : List (ℕ × ℕ)) (usage i : ℕ) → i < length ranges → (usage < (get_or ranges i (0, 0)).0) ⊎ ((get_or ranges i (0, 0)).1 < usage)
    → IsPast ranges usage i → IsPast ranges usage (i + 1)
one_past ranges usage i l out past number below e =
    let step = len_step ranges i l in
    elim (cases_lt number (length (usage_list (take i ranges)))) [
      | inl low ↦ past number low e
      | inr high ↦ (let at : usage ≡ (get_or ranges i (0, 0)).0 + (number - length (usage_list (take i ranges))) = some_same (sym e ∙ in_range ranges i number l high below) in
          elim out [
            | inl under ↦ absurd (omega arith)
            | inr over ↦ absurd (omega arith)
          ])
    ]

pub past_upto : (ranges : List (ℕ × ℕ)) (usage from i : ℕ) → AreWithout ranges usage from → i ≤ from → i ≤ length ranges → IsPast ranges usage i
past_upto ranges usage from zero w l m = none_past ranges usage
past_upto ranges usage from (suc i) w l m =
    let on : suc i ≡ i + 1 = omega arith in
    rw on (one_past ranges usage i (omega arith) (w i (omega arith) (omega arith)) (past_upto ranges usage from i w (omega arith) (omega arith)))

pub all_past : (ranges : List (ℕ × ℕ)) (usage i : ℕ) → length ranges ≤ i → IsPast ranges usage i → IsUnlisted (usage_list ranges) usage
all_past ranges usage i l past number e = elim (cases_lt number (length (usage_list (take i ranges)))) [
  | inl low ↦ past number low e
  | inr high ↦ absurd (let n : None ≡ Some usage = sym (past_ranges ranges i number l high) ∙ e in cc)
]

pub is_first : (ranges : List (ℕ × ℕ)) (counts : List ℕ) (usage i number : ℕ) → AreCounts ranges counts → i < length ranges
    → (get_or ranges i (0, 0)).0 ≤ usage → usage ≤ (get_or ranges i (0, 0)).1 → number ≡ slice_index counts i - 1 - ((get_or ranges i (0, 0)).1 - usage)
    → IsPast ranges usage i → IsFirst (usage_list ranges) usage number
is_first ranges counts usage i number c l a b n past =
    let front = length (usage_list (take i ranges)) in
    let step = len_step ranges i l in
    let count = c.1 i l in
    let place : number ≡ front + (usage - (get_or ranges i (0, 0)).0) = omega arith in
    let back : (get_or ranges i (0, 0)).0 + (number - front) ≡ usage = omega arith in
    record {
      here = in_range ranges i number l (omega arith) (omega arith) ∙ ap Some back;
      first = λ before below e. (elim (cases_lt before front) [
        | inl low ↦ past before low e
        | inr high ↦ absurd (let at : usage ≡ (get_or ranges i (0, 0)).0 + (before - front) = some_same (sym e ∙ in_range ranges i before l high (omega arith)) in omega arith)
      ]);
    }

pub count_over : (ranges : List (ℕ × ℕ)) (counts : List ℕ) (usage i : ℕ) → AreCounts ranges counts → i < length ranges
    → (get_or ranges i (0, 0)).0 ≤ usage → usage ≤ (get_or ranges i (0, 0)).1 → (get_or ranges i (0, 0)).1 - usage < slice_index counts i
count_over ranges counts usage i c l a b =
    let step = len_step ranges i l in
    let count = c.1 i l in
    omega arith
