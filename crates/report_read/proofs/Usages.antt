-- The usages of a field with one range.
use Rattle.std.proofs.Common.{◌≡◌, ℕ, ◌+◌, ◌-◌, ◌<◌, ◌≤◌, false, min, List, [], ◌∷◌, length, arith, refl, sym, ◌∙◌, ap, Some, None, length-append}
use Rattle.std.specs.Prelude.{ℤ, slice_get}
use Rattle.std.proofs.lemmas.Bool.{lt-ltb}
use Rattle.descriptor_parse.specs.declared.field.Field.{Field}
use Rattle.descriptor_parse.specs.Descriptor.{DescriptorValue, count_up, ranges_at, usage_list}
use Rattle.descriptor_parse.proofs.UsageLemmas.{length_up, list_cons, within_first, past_first, no_usages}
use Rattle.field_values.specs.Values.{usage_read}
use Rattle.report_read.specs.declared.lane.Lane.{Lane}
use Rattle.report_read.specs.declared.lane.Way.{Way}
use Rattle.report_read.specs.declared.lane.Way.TheVariants.{Own}
use Rattle.report_read.specs.representation.Lanes.{IsLane, IsOne, IsWay}

nothing_in : (place : ℕ) → slice_get (usage_list []) place ≡ None
unfolding usage_list
nothing_in place = refl

one_long : (first last : ℕ) → first ≤ last → length (usage_list ((first, last) ∷ [])) ≡ last - first + 1
one_long first last o =
    let up : length (count_up first (last + 1 - first)) ≡ last + 1 - first = length_up first (last + 1 - first) in
    let none : length (usage_list []) ≡ 0 = no_usages in
    let all = length-append (count_up first (last + 1 - first)) (usage_list []) in
    ap length (list_cons (first, last) []) ∙ omega (arith, all, up, none)

own_usage : (field : Field) (first last place : ℕ) (raw : ℤ) → field.array ≡ false → first ≤ last → place < field.count
    → Some (first + min place (last - first)) ≡ usage_read field (usage_list ((first, last) ∷ [])) place raw
own_usage field first last place raw variable o within =
    let long : length (usage_list ((first, last) ∷ [])) - 1 ≡ last - first = (let l = one_long first last o in omega arith) in
    let here : slice_get (usage_list ((first, last) ∷ [])) (min place (last - first)) ≡ Some (first + min place (last - first)) =
    within_first first last [] (min place (last - first)) o (omega arith) in
    rw (variable, lt-ltb place field.count within, long) (sym here)

own_is : (field : Field) (ranges : List (ℕ × ℕ)) (first span place : ℕ) (raw : ℤ) → IsOne field ranges false first span → place < field.count
    → Some (first + min place span) ≡ usage_read field (usage_list ranges) place raw
own_is field ranges first span place raw one within =
    let e : span ≡ first + span - first = omega arith in
    rw one.one (ap (λ n. Some (first + min place n)) e ∙ own_usage field first (first + span) place raw one.array (omega arith) within)

in_one_range : (field : Field) (ranges : List (ℕ × ℕ)) (way : Way) (first span : ℕ) → way ≡ Own → IsWay field ranges way first span
    → IsOne field ranges false first span
in_one_range field ranges way first span e is = rw e at is

pub way_own : (d : DescriptorValue) (lane : Lane) (place : ℕ) (raw : ℤ) → lane.way ≡ Own → IsLane d lane → place < lane.kept.field.count
    → Some (lane.first + min place lane.span) ≡ usage_read lane.kept.field (usage_list (ranges_at d lane.kept.number)) place raw
way_own d lane place raw e is within =
    own_is lane.kept.field (ranges_at d lane.kept.number) lane.first lane.span place raw
    (in_one_range lane.kept.field (ranges_at d lane.kept.number) lane.way lane.first lane.span e is.way) within

pub nth_some : (first span number : ℕ) → number ≤ span → Some (first + number) ≡ slice_get (usage_list ((first, first + span) ∷ [])) number
nth_some first span number l = sym (within_first first (first + span) [] number (omega arith) (omega arith))

pub nth_none : (first span number : ℕ) → span < number → None ≡ slice_get (usage_list ((first, first + span) ∷ [])) number
nth_none first span number l = sym (past_first first (first + span) [] number (omega arith) (omega arith) ∙ nothing_in _)
