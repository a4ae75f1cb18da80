-- Usages that no place of an Array names after they were taken out.
use Rattle.std.proofs.Common.{◌≡◌, ◌≢◌, ℕ, ◌+◌, ◌%◌, ◌^◌, ◌<◌, Bool, true, false, List, length, refl, sym, ◌∙◌, ap, inl, inr, Some, None}
use Rattle.std.specs.Prelude.{Option, ℤ, pos, ◌+ℤ◌, not, ◌==◌, if◌then◌else◌, slice_get}
use Rattle.std.specs.Int.{int_gap}
use Rattle.std.proofs.lemmas.Bool.{cases_Bool, eqb-true, eq-eqb}
use Rattle.descriptor_parse.specs.declared.field.Field.{Field}
use Rattle.host_extract.specs.Found.{value_at}
use Rattle.host_extract.specs.Numbers.{value_under}
use Rattle.field_values.specs.Held.{place_bit, is_held, is_within}
use Rattle.field_values.specs.Nulls.{null_of}
use Rattle.field_values.specs.Lists.{is_no_control, is_unused}
use Rattle.field_values.specs.Values.{listed, usage_read}
use Rattle.field_values.proofs.NullLemmas.{null_is_null}
use Rattle.field_values.proofs.Reading.{same_number, apart}
use Rattle.report_write.specs.Firsts.{first}
use Rattle.report_write.specs.Controls.{is_usage}
use Rattle.report_write.specs.Unused.{unused, id_zero}
use Rattle.report_write.specs.Arrays.{names, IsOff}
use Rattle.report_write.proofs.Firsts.{first_passes, not_both}
use Rattle.report_write.proofs.UnusedLemmas.{is_zero}
use Rattle.report_write.proofs.FilledHeld.{is_left, is_right, mapped}
use Rattle.report_write.proofs.FilledHeld as filled
use Rattle.report_write.proofs.ArraysCleared.{names_same}
use Rattle.report_write.proofs.ArraysNamed.{by_list}

none_if : (f : Field) (usages : List ℕ) (v : ℤ) → is_unused f usages v ≡ true → is_no_control (listed f usages v) ≡ true
none_if f usages v e = is_right (is_held f.min f.size v) (is_no_control (listed f usages v)) e

outside_none : (within : Bool) (o : Option ℕ) → not within ≡ true → is_no_control (if within then o else None) ≡ true
outside_none true o e = absurd (cc)
outside_none false o e = refl

null_none : (f : Field) (usages : List ℕ) (v : ℤ) → null_of f ≡ Some v → is_no_control (listed f usages v) ≡ true
null_none f usages v e =
    outside_none (is_within f v) (slice_get usages (int_gap f.min v)) (is_left (not (is_within f v)) (is_held f.min f.size v) (null_is_null f v e))

zero_none : (f : Field) (usages : List ℕ) (v : ℤ) → id_zero f usages ≡ Some v → is_no_control (listed f usages v) ≡ true
zero_none f usages v e =
    let (n, found, same) = mapped (λ k. f.min +ℤ pos k) (first (is_zero f usages) (length usages)) v e in
    let passes = first_passes (is_zero f usages) (length usages) n found in
    ap (λ x. is_no_control (listed f usages x)) (sym same)
    ∙ none_if f usages (f.min +ℤ pos n) (is_right (is_no_control (slice_get usages n)) (is_unused f usages (f.min +ℤ pos n)) passes)

unused_none : (f : Field) (usages : List ℕ) (v : ℤ) → unused f usages ≡ Some v → is_no_control (listed f usages v) ≡ true
unfolding unused
unused_none f usages v e =
    filled.one_of (λ x. is_no_control (listed f usages x)) (is_unused f usages (pos 0)) (pos 0) (null_of f)
    (is_unused f usages (f.min +ℤ pos (length usages))) (f.min +ℤ pos (length usages)) (id_zero f usages) v
    (none_if f usages (pos 0)) (null_none f usages) (none_if f usages (f.min +ℤ pos (length usages))) (zero_none f usages) e

not_usage : (o : Option ℕ) (usage : ℕ) → is_no_control o ≡ true → usage % 2 ^ 16 ≢ 0 → is_usage usage o ≡ false
not_usage None usage none some = refl
not_usage (Some other) usage none some = elim (cases_Bool (other == usage)) [
  | inl same ↦ (let is : other ≡ usage = eqb-true other usage same in
      let zero : other % 2 ^ 16 ≡ 0 = eqb-true (other % 2 ^ 16) 0 none in
      absurd (some (ap (λ k. k % 2 ^ 16) (sym is) ∙ zero)))
  | inr differs ↦ differs
]

pub no_longer_named : (f : Field) (usages : List ℕ) (usage place : ℕ) (old new marks_old marks_new : List ℕ) → f.array ≡ true → usage % 2 ^ 16 ≢ 0
    → IsOff f usages usage old new marks_old marks_new → place < f.count → names f usages new usage place ≡ false
no_longer_named f usages usage place old new marks_old marks_new array some s below = elim (cases_Bool (names f usages old usage place)) [
  | inl named ↦ ap (λ v. is_usage usage (usage_read f usages place v)) (s.put.there place below named)
      ∙ ap (is_usage usage) (by_list f.array (listed f usages s.value) _ array)
      ∙ not_usage (listed f usages s.value) usage (unused_none f usages s.value s.none) some
  | inr other ↦ (let same : value_at f new place ≡ value_at f old place =
      ap (value_under f.min f.size) (same_number old new (place_bit f place) f.size (λ i l.
      s.put.others (place_bit f place + i) (λ p b t. apart f p place i (λ e. not_both (names f usages old usage p) t (ap (names f usages old usage) e ∙ other)) l))) in
      sym (names_same f usages old new usage place same) ∙ other)
]

pub never_read : (o : Option ℕ) (usage : ℕ) → is_usage usage o ≡ false → o ≢ Some usage
never_read o usage other e = not_both (usage == usage) (eq-eqb usage usage refl) (ap (is_usage usage) (sym e) ∙ other)
