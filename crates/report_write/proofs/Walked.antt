-- Places of a Variable field that have a usage, counted range by range.
use Rattle.std.proofs.Common.{◌≡◌, ◌≢◌, ℕ, zero, suc, ◌+◌, ◌-◌, ◌<◌, ◌≤◌, true, false, List, length, get_or, arith, refl, sym, ◌∙◌, ap, inl, inr, Some, None}
use Rattle.std.specs.Prelude.{◌==◌, not, min, slice_get}
use Rattle.std.proofs.lemmas.Bool.{cases_lt, eq-eqb, ne_eqb}
use Rattle.std.proofs.lemmas.List.{take_all}
use Rattle.std.proofs.lemmas.Option.{slice_get_within}
use Rattle.descriptor_parse.specs.declared.field.Field.{Field}
use Rattle.descriptor_parse.specs.Descriptor.{usage_list, usage_of_place}
use Rattle.descriptor_parse.proofs.CountLemmas.{len_step, in_range, place_within}
use Rattle.descriptor_parse.proofs.UsageLemmas.{no_usages}
use Rattle.report_write.specs.Controls.{is_usage, places_with}
use Rattle.report_write.specs.representation.Walks.{before, IsOwn, IsPlaceOf, AreServed}
use Rattle.report_write.proofs.Controls.{no_place, with_usage, without_usage, place_found}

-- how many of the first places have a usage
abbrev pub counted : Field → List ℕ → ℕ → ℕ → ℕ
counted field usages usage n = length (places_with field usages usage n)

none_between : (field : Field) (usages : List ℕ) (usage a k : ℕ)
    → ((i : ℕ) → a ≤ i → i < a + k → is_usage usage (usage_of_place field usages i) ≡ false) → counted field usages usage (a + k) ≡ counted field usages usage a
none_between field usages usage a zero none = let e : a + zero ≡ a = omega arith in ap (counted field usages usage) e
none_between field usages usage a (suc k) none =
    let e : a + suc k ≡ a + k + 1 = omega arith in
    ap (counted field usages usage) e ∙ without_usage field usages usage (a + k) (none (a + k) (omega arith) (omega arith))
    ∙ none_between field usages usage a k (λ i l m. none i l (omega arith))

all_between : (field : Field) (usages : List ℕ) (usage a k : ℕ)
    → ((i : ℕ) → a ≤ i → i < a + k → is_usage usage (usage_of_place field usages i) ≡ true) → counted field usages usage (a + k) ≡ counted field usages usage a + k
all_between field usages usage a zero all = let e : a + zero ≡ a = omega arith in ap (counted field usages usage) e ∙ omega arith
all_between field usages usage a (suc k) all =
    let e : a + suc k ≡ a + k + 1 = omega arith in
    let more = ap (counted field usages usage) e ∙ with_usage field usages usage (a + k) (all (a + k) (omega arith) (omega arith)) in
    let fewer = all_between field usages usage a k (λ i l m. all i l (omega arith)) in
    omega (arith, more, fewer)

-- the usage that a range gives to a place
own : (field : Field) (ranges : List (ℕ × ℕ)) (range i : ℕ) → field.array ≡ false → range < length ranges → i < field.count
    → before ranges range ≤ i → i < before ranges (range + 1)
    → usage_of_place field (usage_list ranges) i ≡ Some ((get_or ranges range (0, 0)).0 + (i - before ranges range))
own field ranges range i variable l within low high =
    let at = in_range ranges range i l low high in
    let listed : i < length (usage_list ranges) = slice_get_within (usage_list ranges) i _ at in
    let least : i ≡ min i (length (usage_list ranges) - 1) = omega arith in
    sym (place_within field (usage_list ranges) i (length (usage_list ranges)) i _ variable within refl least refl) ∙ at

is_own : (field : Field) (ranges : List (ℕ × ℕ)) (range usage i : ℕ) → field.array ≡ false → range < length ranges → i < field.count
    → before ranges range ≤ i → i < before ranges (range + 1) → (get_or ranges range (0, 0)).0 + (i - before ranges range) ≡ usage
    → is_usage usage (usage_of_place field (usage_list ranges) i) ≡ true
is_own field ranges range usage i variable l within low high e =
    ap (is_usage usage) (own field ranges range i variable l within low high) ∙ eq-eqb _ usage e

is_other : (field : Field) (ranges : List (ℕ × ℕ)) (range usage i : ℕ) → field.array ≡ false → range < length ranges → i < field.count
    → before ranges range ≤ i → i < before ranges (range + 1) → (get_or ranges range (0, 0)).0 + (i - before ranges range) ≢ usage
    → is_usage usage (usage_of_place field (usage_list ranges) i) ≡ false
is_other field ranges range usage i variable l within low high e =
    ap (is_usage usage) (own field ranges range i variable l within low high) ∙ ne_eqb _ usage e

-- the places up to a range, as far as there are any
abbrev pub reach : Field → List (ℕ × ℕ) → ℕ → ℕ
reach field ranges range = min (before ranges range) field.count

pub none_yet : (field : Field) (ranges : List (ℕ × ℕ)) (usage : ℕ) → counted field (usage_list ranges) usage (reach field ranges 0) ≡ 0
none_yet field ranges usage =
    let z : before ranges 0 ≡ 0 = no_usages in
    let e : reach field ranges 0 ≡ 0 = omega arith in
    ap (counted field (usage_list ranges) usage) e ∙ no_place field (usage_list ranges) usage

-- places of a range that do not have a usage
skips : (field : Field) (ranges : List (ℕ × ℕ)) (range usage from to : ℕ) → field.array ≡ false → range < length ranges → to ≤ field.count
    → before ranges range ≤ from → from ≤ to → to ≤ before ranges (range + 1)
    → ((i : ℕ) → from ≤ i → i < to → (get_or ranges range (0, 0)).0 + (i - before ranges range) ≢ usage)
    → counted field (usage_list ranges) usage to ≡ counted field (usage_list ranges) usage from
skips field ranges range usage from to variable l few low order high differs =
    let rest : from + (to - from) ≡ to = omega arith in
    sym (ap (counted field (usage_list ranges) usage) rest)
    ∙ none_between field (usage_list ranges) usage from (to - from)
    (λ i a b. is_other field ranges range usage i variable l (omega arith) (omega arith) (omega arith) (differs i a (omega arith)))

pub range_skipped : (field : Field) (ranges : List (ℕ × ℕ)) (range usage : ℕ) → field.array ≡ false → range < length ranges
    → IsPlaceOf field ranges range usage None
    → counted field (usage_list ranges) usage (reach field ranges (range + 1)) ≡ counted field (usage_list ranges) usage (reach field ranges range)
range_skipped field ranges range usage variable l none =
    let step = len_step ranges range l in
    elim (cases_lt (before ranges range) field.count) [
      | inl room ↦ skips field ranges range usage (reach field ranges range) (reach field ranges (range + 1)) variable l (omega arith) (omega arith) (omega arith) (omega arith)
          (λ i a b e. elim none [
            | inl under ↦ absurd (omega arith)
            | inr (inl over) ↦ absurd (omega arith)
            | inr (inr past) ↦ absurd (omega arith)
          ])
      | inr full ↦ (let same : reach field ranges (range + 1) ≡ reach field ranges range = omega arith in ap (counted field (usage_list ranges) usage) same)
    ]

-- a place of a range that has a usage: those before it, and those after the range
pub range_counted : (field : Field) (ranges : List (ℕ × ℕ)) (range usage place : ℕ) → field.array ≡ false → range < length ranges
    → IsOwn field ranges range usage place
    → (counted field (usage_list ranges) usage place ≡ counted field (usage_list ranges) usage (reach field ranges range))
    × (is_usage usage (usage_of_place field (usage_list ranges) place) ≡ true)
    × (counted field (usage_list ranges) usage (reach field ranges (range + 1)) ≡ counted field (usage_list ranges) usage (reach field ranges range) + 1)
range_counted field ranges range usage place variable l o =
    let step = len_step ranges range l in
    let least : (get_or ranges range (0, 0)).0 ≤ usage = o.least in
    let most : usage ≤ (get_or ranges range (0, 0)).1 = o.most in
    let here : place ≡ before ranges range + (usage - (get_or ranges range (0, 0)).0) = o.here in
    let within : place < field.count = o.within in
    let low = skips field ranges range usage (reach field ranges range) place variable l (omega arith) (omega arith) (omega arith) (omega arith) (λ i a b e. omega arith) in
    let its = is_own field ranges range usage place variable l within (omega arith) (omega arith) (omega arith) in
    let one = with_usage field (usage_list ranges) usage place its in
    let high = skips field ranges range usage (place + 1) (reach field ranges (range + 1)) variable l (omega arith) (omega arith) (omega arith) (omega arith) (λ i a b e. omega arith) in
    (low, its, omega (arith, low, one, high))

-- ---- past the list

not_zero : (n : ℕ) → n ≢ 0 → not (n == 0) ≡ true
not_zero n some = ap not (ne_eqb n 0 some)

all_ranges : (field : Field) (ranges : List (ℕ × ℕ)) (range : ℕ) → length ranges ≤ range → before ranges range ≡ length (usage_list ranges)
all_ranges field ranges range l = ap (λ rs. length (usage_list rs)) (take_all range ranges l)

-- the place past the list with a number
pub served_here : (field : Field) (ranges : List (ℕ × ℕ)) (range usage served left number : ℕ) → field.array ≡ false → length ranges ≤ range
    → AreServed field (usage_list ranges) usage served → counted field (usage_list ranges) usage (reach field ranges range) + left ≡ number → left < served
    → slice_get (places_with field (usage_list ranges) usage field.count) number ≡ Some (field.count - (served - left))
served_here field ranges range usage served left number variable l a e few =
    let some : served ≢ 0 = (λ z. omega arith) in
    let all = a.all some in
    let end = all_ranges field ranges range l in
    let from : reach field ranges range ≡ length (usage_list ranges) = omega arith in
    let place : length (usage_list ranges) + left ≡ field.count - (served - left) = omega arith in
    let yes : (i : ℕ) → length (usage_list ranges) ≤ i → i < field.count → is_usage usage (usage_of_place field (usage_list ranges) i) ≡ true =
    (λ i p w. a.each i p w ∙ not_zero served some) in
    let before_it = all_between field (usage_list ranges) usage (length (usage_list ranges)) left (λ i p w. yes i p (omega arith)) in
    let start = ap (counted field (usage_list ranges) usage) from in
    let same = ap (counted field (usage_list ranges) usage) place in
    place_found field (usage_list ranges) usage (field.count - (served - left)) field.count number (omega arith)
    (yes (field.count - (served - left)) (omega arith) (omega arith)) (omega (arith, before_it, start, same, e))

pub served_past : (field : Field) (ranges : List (ℕ × ℕ)) (range usage served left number : ℕ) → field.array ≡ false → length ranges ≤ range
    → AreServed field (usage_list ranges) usage served → counted field (usage_list ranges) usage (reach field ranges range) + left ≡ number → served ≤ left
    → counted field (usage_list ranges) usage field.count + (left - served) ≡ number
served_past field ranges range usage zero left number variable l a e many =
    let end = all_ranges field ranges range l in
    let rest : reach field ranges range + (field.count - reach field ranges range) ≡ field.count = omega arith in
    let none = none_between field (usage_list ranges) usage (reach field ranges range) (field.count - reach field ranges range) (λ i p w. a.each i (omega arith) (omega arith)) in
    let same = ap (counted field (usage_list ranges) usage) rest in
    omega (arith, none, same, e)
served_past field ranges range usage (suc served) left number variable l a e many =
    let some : suc served ≢ 0 = (λ z. omega arith) in
    let all = a.all some in
    let end = all_ranges field ranges range l in
    let from : reach field ranges range ≡ length (usage_list ranges) = omega arith in
    let rest : length (usage_list ranges) + suc served ≡ field.count = all in
    let more = all_between field (usage_list ranges) usage (length (usage_list ranges)) (suc served) (λ i p w. a.each i p (omega arith) ∙ not_zero (suc served) some) in
    let start = ap (counted field (usage_list ranges) usage) from in
    let same = ap (counted field (usage_list ranges) usage) rest in
    omega (arith, more, start, same, e)
