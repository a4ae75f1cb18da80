-- Where no value is taken for one that names no usage, there is none.
use Rattle.std.proofs.Common.{◌≡◌, ℕ, ◌<◌, Bool, true, false, List, length, arith, refl, sym, ◌∙◌, ap, Some, None, inl, inr}
use Rattle.std.specs.Prelude.{Option, ◌⊎◌, ℤ, pos, negsuc, ◌+ℤ◌, ◌≤ℤ◌, int_lt, not, ◌&&◌, slice_get, if◌then◌else◌}
use Rattle.std.specs.Int.{int_gap}
use Rattle.std.specs.Option.{option_map, option_or}
use Rattle.std.proofs.lemmas.Bool.{cases_lt, cases_Bool}
use Rattle.std.proofs.lemmas.Int.{ints}
use Rattle.std.proofs.lemmas.Option.{slice_get_past}
use Rattle.descriptor_parse.specs.declared.field.Field.{Field}
use Rattle.field_values.specs.Held.{is_held, is_within}
use Rattle.field_values.specs.Nulls.{is_null, null_of}
use Rattle.field_values.specs.Lists.{is_no_control, is_unused}
use Rattle.field_values.proofs.NullLemmas.{held_between, zero_held, null_from}
use Rattle.report_write.specs.Firsts.{first}
use Rattle.report_write.specs.Unused.{unused, id_zero}
use Rattle.report_write.proofs.Firsts.{none_passes, and_both, not_both}
use Rattle.report_write.proofs.UnusedLemmas.{is_zero}

-- ---- how far numbers are apart

pub gap_back : (a b : ℤ) → a ≤ℤ b → a +ℤ pos (int_gap a b) ≡ b
gap_back (pos a) (pos b) l = omega (arith, ints)
gap_back (pos a) (negsuc b) l = absurd (omega (arith, ints))
gap_back (negsuc a) (pos b) l = omega (arith, ints)
gap_back (negsuc a) (negsuc b) l = omega (arith, ints)

pub gap_of : (a b : ℤ) (n : ℕ) → b ≡ a +ℤ pos n → int_gap a b ≡ n
gap_of a b n e = let back = gap_back a b (omega (arith, ints)) in omega (arith, ints)

-- ---- tests

pub within_is : (under over : Bool) (f : Field) (v : ℤ) → under ≡ int_lt v f.min → over ≡ int_lt f.max v → (not under && not over) ≡ true → (f.min ≤ℤ v) × (v ≤ℤ f.max)
within_is true over f v a b e = absurd (cc)
within_is false true f v a b e = absurd (cc)
within_is false false f v a b e = (grind (arith, ints), grind (arith, ints))

is_inside : (f : Field) (v : ℤ) → f.min ≤ℤ v → v ≤ℤ f.max → is_within f v ≡ true
is_inside f v a b =
    let under : int_lt v f.min ≡ false = grind (arith, ints) in
    let over : int_lt f.max v ≡ false = grind (arith, ints) in
    rw (under, over) refl

-- what names a usage that is one is within the logical extents
names_one : (held within : Bool) (o : Option ℕ) → (held && is_no_control (if within then o else None)) ≡ false → held ≡ true → (within ≡ true) × (is_no_control o ≡ false)
names_one true true o e h = (refl, e)
names_one true false o e h = absurd (cc)
names_one false within o e h = absurd (cc)

names_none : (held within : Bool) (o : Option ℕ) → (held && is_no_control (if within then o else None)) ≡ true
    → (held ≡ true) × ((within ≡ false) ⊎ ((within ≡ true) × (is_no_control o ≡ true)))
names_none true true o e = (refl, inr (refl, e))
names_none true false o e = (refl, inl refl)
names_none false within o e = absurd (cc)

names_past : (held within : Bool) (o : Option ℕ) → held ≡ true → within ≡ true → o ≡ None → (held && is_no_control (if within then o else None)) ≡ true
names_past held within o h w e = rw (h, w, e) refl

listed_some : (usages : List ℕ) (number : ℕ) → is_no_control (slice_get usages number) ≡ false → number < length usages
listed_some usages number e = elim (cases_lt number (length usages)) [
  | inl low ↦ low
  | inr high ↦ absurd (let past : slice_get usages number ≡ None = slice_get_past usages number high in let no : is_no_control None ≡ false = rw past at e in cc)
]

none_mapped : (f : ℕ → ℤ) (o : Option ℕ) → option_map f o ≡ None → o ≡ None
none_mapped f None e = refl
none_mapped f (Some x) e = absurd (cc)

-- ---- no value names none

pub never_unused : (f : Field) (usages : List ℕ) (past : ℤ) → past ≡ f.min +ℤ pos (length usages) → is_unused f usages (pos 0) ≡ false
    → ((v : ℤ) → is_null f v ≡ false) → is_unused f usages past ≡ false → id_zero f usages ≡ None → (v : ℤ) → is_unused f usages v ≡ false
never_unused f usages past p zero_named no_null past_named none v = elim (cases_Bool (is_unused f usages v)) [
  | inr other ↦ other
  | inl said ↦ (
      let (held, why) = names_none (is_held f.min f.size v) (is_within f v) (slice_get usages (int_gap f.min v)) said in
      elim why [
        | inl out ↦ not_both (is_null f v) (null_from (is_within f v) (is_held f.min f.size v) out held) (no_null v)
        | inr (inside, control) ↦ (
            let number = int_gap f.min v in
            let (from, to) = within_is (int_lt v f.min) (int_lt f.max v) f v refl refl inside in
            let back = gap_back f.min v from in
            elim (cases_lt number (length usages)) [
              | inl low ↦ not_both (is_zero f usages number) (and_both (is_no_control (slice_get usages number)) (is_unused f usages (f.min +ℤ pos number)) control (rw back said))
                  (none_passes (is_zero f usages) (length usages) number (none_mapped (λ n. f.min +ℤ pos n) (first (is_zero f usages) (length usages)) none) low)
              | inr high ↦ (
                  let zero_is = zero_held f.min f.size in
                  let (in_zero, some) = names_one (is_held f.min f.size (pos 0)) (is_within f (pos 0)) (slice_get usages (int_gap f.min (pos 0))) zero_named zero_is in
                  let (least, _) = within_is (int_lt (pos 0) f.min) (int_lt f.max (pos 0)) f (pos 0) refl refl in_zero in
                  let before = listed_some usages (int_gap f.min (pos 0)) some in
                  let zero_back = gap_back f.min (pos 0) least in
                  let above : pos 0 ≤ℤ past = omega (arith, ints) in
                  let under : past ≤ℤ v = omega (arith, ints) in
                  let past_held = held_between f.min f.size (pos 0) v past zero_is held above under in
                  let past_in = is_inside f past (omega (arith, ints)) (omega (arith, ints)) in
                  let gap : int_gap f.min past ≡ length usages = gap_of f.min past (length usages) p in
                  let nothing : slice_get usages (int_gap f.min past) ≡ None = slice_get_past usages (int_gap f.min past) (omega arith) in
                  not_both (is_unused f usages past)
                  (names_past (is_held f.min f.size past) (is_within f past) (slice_get usages (int_gap f.min past)) past_held past_in nothing) past_named)
            ])
      ])
]

-- ---- the one that is taken

taken_first : (a : Bool) (x : ℤ) (rest : Option ℤ) → a ≡ true → Some x ≡ option_or (if a then Some x else None) rest
taken_first a x rest e = rw e refl

taken_second : (a : Bool) (x : ℤ) (o : Option ℤ) (v : ℤ) (rest : Option ℤ) → a ≡ false → o ≡ Some v → Some v ≡ option_or (if a then Some x else None) (option_or o rest)
taken_second a x o v rest e n = rw (e, n) refl

taken_third : (a : Bool) (x : ℤ) (o : Option ℤ) (b : Bool) (y : ℤ) (rest : Option ℤ) → a ≡ false → o ≡ None → b ≡ true
    → Some y ≡ option_or (if a then Some x else None) (option_or o (option_or (if b then Some y else None) rest))
taken_third a x o b y rest e n u = rw (e, n, u) refl

taken_last : (a : Bool) (x : ℤ) (o : Option ℤ) (b : Bool) (y : ℤ) (rest : Option ℤ) → a ≡ false → o ≡ None → b ≡ false
    → rest ≡ option_or (if a then Some x else None) (option_or o (option_or (if b then Some y else None) rest))
taken_last a x o b y rest e n u = rw (e, n, u) refl

pub takes_zero : (f : Field) (usages : List ℕ) → is_unused f usages (pos 0) ≡ true → Some (pos 0) ≡ unused f usages
unfolding unused
takes_zero f usages e = taken_first (is_unused f usages (pos 0)) (pos 0) _ e

pub takes_null : (f : Field) (usages : List ℕ) (v : ℤ) → is_unused f usages (pos 0) ≡ false → null_of f ≡ Some v → Some v ≡ unused f usages
unfolding unused
takes_null f usages v e n = taken_second (is_unused f usages (pos 0)) (pos 0) (null_of f) v _ e n

pub takes_past : (f : Field) (usages : List ℕ) (v : ℤ) → is_unused f usages (pos 0) ≡ false → null_of f ≡ None → v ≡ f.min +ℤ pos (length usages)
    → is_unused f usages v ≡ true → Some v ≡ unused f usages
unfolding unused
takes_past f usages v e n p u =
    ap Some p ∙ taken_third (is_unused f usages (pos 0)) (pos 0) (null_of f) (is_unused f usages (f.min +ℤ pos (length usages))) (f.min +ℤ pos (length usages)) _ e n
    (sym (ap (is_unused f usages) p) ∙ u)

pub takes_last : (f : Field) (usages : List ℕ) (v : ℤ) → is_unused f usages (pos 0) ≡ false → null_of f ≡ None → v ≡ f.min +ℤ pos (length usages)
    → is_unused f usages v ≡ false → id_zero f usages ≡ unused f usages
unfolding unused
takes_last f usages v e n p u =
    taken_last (is_unused f usages (pos 0)) (pos 0) (null_of f) (is_unused f usages (f.min +ℤ pos (length usages))) (f.min +ℤ pos (length usages)) (id_zero f usages) e n
    (sym (ap (is_unused f usages) p) ∙ u)
