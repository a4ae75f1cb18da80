-- Usages that are found in an Array after they were put in.
use Rattle.std.proofs.Common.{◌≡◌, ℕ, ◌+◌, ◌*◌, ◌<◌, Bool, true, false, List, [], ◌∷◌, get_or, arith, refl, sym, ◌∙◌, ap, subst, inl, inr, Some, None}
use Rattle.std.specs.Prelude.{Option, All, IfSome, ℤ, pos, ◌+ℤ◌, int_lt, nat_lt, not, ◌&&◌, ◌==◌, if◌then◌else◌, slice_get, find, map, is_some}
use Rattle.std.specs.Int.{int_gap}
use Rattle.std.proofs.lemmas.Bool.{cases_Bool, cases_order, eqb-true}
use Rattle.std.proofs.lemmas.Int.{ints}
use Rattle.std.proofs.lemmas.Option.{slice_get-get_or, same_Some}
use Rattle.std.proofs.lemmas.List.Elements.{All-nil, All-cons, All-same, All-map}
use Rattle.std.proofs.lemmas.List.Quantifiers.{position-Some}
use Rattle.descriptor_parse.specs.declared.field.Field.{Field}
use Rattle.descriptor_parse.specs.Descriptor.{DescriptorValue, ranges_at, usage_list}
use Rattle.host_extract.specs.Found.{value_at}
use Rattle.host_extract.specs.Numbers.{report_bit, value_under}
use Rattle.field_values.specs.declared.null.Asked.{Asked}
use Rattle.field_values.specs.declared.null.Asked.TheVariants.{Value}
use Rattle.field_values.specs.Held.{place_bit, is_held}
use Rattle.field_values.specs.Values.{listed, usage_read}
use Rattle.field_values.proofs.Reading.{same_number, later_place}
use Rattle.report_write.specs.declared.kept.Kept.{Kept}
use Rattle.report_write.specs.declared.control.Control.{Control}
use Rattle.report_write.specs.declared.control.Control.TheVariants.{Place, Usage}
use Rattle.report_write.specs.declared.setting.Setting.{Setting}
use Rattle.report_write.specs.declared.setting.Target.{Target}
use Rattle.report_write.specs.declared.setting.Target.TheVariants as target
use Rattle.report_write.specs.declared.setting.WriteError.{WriteError}
use Rattle.report_write.specs.declared.setting.WriteError.TheVariants.{TooLarge, OutOfRange}
use Rattle.report_write.specs.Controls.{number_of, places_with, controls_in, controls, control_of, place_in}
use Rattle.report_write.specs.Arrays.{on_refusal, usage_refusal, IsOn}
use Rattle.report_write.specs.Settings.{refusal_at, IsUsageSet, IsSet, IsAfter}
use Rattle.report_write.specs.Untouched.{IsOutsideFrom, IsLeftFrom}
use Rattle.report_write.proofs.Controls.{controls_are}
use Rattle.report_write.proofs.ControlsFit.{by_usage, by_field, one_of, all_row}
use Rattle.report_write.proofs.SettingsSet.{refused_by}
use Rattle.report_write.proofs.UnusedNone.{gap_of}
use Rattle.report_write.proofs.Untouched.{bit_stays}

-- ---- a usage that is meant is one of an Array

abbrev IsOfArray : Control → Type 0
IsOfArray (Place kept place) = true ≡ true
IsOfArray (Usage kept usage) = kept.field.array ≡ true

arrays_in : (usages : List ℕ) (usage : ℕ) (kept : Kept) → All IsOfArray (controls_in usages usage kept)
arrays_in usages usage kept = elim (cases_Bool kept.field.array) [
  | inl array ↦ elim (cases_Bool (is_some (number_of usages usage))) [
    | inl some ↦ (let its : controls_in usages usage kept ≡ Usage kept usage ∷ [] = rw (array, some) refl in
        All-same IsOfArray _ _ its (All-cons IsOfArray (Usage kept usage) [] array (All-nil IsOfArray)))
    | inr none ↦ (let its : controls_in usages usage kept ≡ [] = rw (array, none) refl in
        All-same IsOfArray _ _ its (All-nil IsOfArray))
  ]
  | inr variable ↦ (let places = places_with kept.field usages usage kept.field.count in
      let its : controls_in usages usage kept ≡ map (λ place. Place kept place) places = rw variable refl in
      All-same IsOfArray _ _ its (All-map IsOfArray (λ place. Place kept place) places (λ k e l. refl)))
]

usage_in : (d : DescriptorValue) (kept : List Kept) (usage place : ℕ) → IfSome (slice_get (controls d usage kept) place) IsOfArray
usage_in d kept usage place =
    rw (controls_are d usage kept) (one_of IsOfArray _ place
    (all_row (λ k. controls_in (usage_list (ranges_at d k.number)) usage k) (λ k. true ≡ true) IsOfArray
    (λ k f. arrays_in (usage_list (ranges_at d k.number)) usage k) kept (λ i x l. refl)))

of_place : (within : Bool) (kept one : Kept) (place usage : ℕ) → (if within then Some (Place kept place) else None) ≡ Some (Usage one usage) → ⊥
of_place true kept one place usage e = cc
of_place false kept one place usage e = cc

no_usage_in : (place : ℕ) (found : Option Kept) (one : Kept) (usage : ℕ) → place_in place found ≡ Some (Usage one usage) → ⊥
no_usage_in place None one usage e = cc
no_usage_in place (Some kept) one usage e = of_place (nat_lt place kept.field.count) kept one place usage e

pub is_array : (d : DescriptorValue) (kept : List Kept) (meant : Target) (one : Kept) (usage : ℕ) → control_of d kept meant ≡ Some (Usage one usage)
    → one.field.array ≡ true
is_array d kept (target.Usage asked place) one usage e = rw (sym (by_usage d kept asked place) ∙ e) at (usage_in d kept asked place)
is_array d kept (target.Field field place) one usage e =
    absurd (no_usage_in place (find (λ k. k.number == field) kept) one usage (sym (by_field d kept field place) ∙ e))

-- ---- what a setting left, and the later ones

pub record WasSet (d : DescriptorValue) (kept : List Kept) (settings : List Setting) (number : ℕ) (setting : Setting) (bytes : List ℕ) : Type 0 where
  pub old : List ℕ
  pub new : List ℕ
  pub marks_old : List ℕ
  pub marks_new : List ℕ
  pub taken : refusal_at d kept old marks_old number setting ≡ None
  pub set : IsSet d kept setting old new marks_old marks_new
  pub later : (bit : ℕ) → IsOutsideFrom d kept settings (number + 1) bit → report_bit bytes bit ≡ report_bit new bit

pub was_set : (d : DescriptorValue) (kept : List Kept) (settings : List Setting) (start clear : List ℕ) (n : ℕ) (setting : Setting)
    → slice_get settings n ≡ Some setting → (count : ℕ) (bytes marks : List ℕ) → IsAfter d kept settings start clear count bytes marks → n < count
    → WasSet d kept settings n setting bytes
was_set d kept settings start clear n setting at count bytes marks IsAfter.Begun l = absurd (omega arith)
was_set d kept settings start clear n setting at count bytes marks (IsAfter.Next number other old new marks_old marks_new before here taken s) l =
    elim (cases_order n number) [
      | inl same ↦ (let its : setting ≡ other = same_Some _ _ (sym at ∙ ap (slice_get settings) same ∙ here) in
          record {
            old = old;
            new = new;
            marks_old = marks_old;
            marks_new = marks_new;
            taken = ap (refusal_at d kept old marks_old n) its ∙ ap (λ k. refusal_at d kept old marks_old k other) same ∙ taken;
            set = rw its s;
            later = λ bit out. refl;
          })
      | inr (inl earlier) ↦ (let w = was_set d kept settings start clear n setting at number old marks_old before earlier in
          record {
            old = w.old;
            new = w.new;
            marks_old = w.marks_old;
            marks_new = w.marks_new;
            taken = w.taken;
            set = w.set;
            later = λ bit out. bit_stays d kept other old new marks_old marks_new bit (λ control c. out number other control (omega arith) here c) s ∙ w.later bit out;
          })
      | inr (inr later) ↦ absurd (omega arith)
    ]

-- a place of a field that later settings leave holds what it held
pub left_value : (d : DescriptorValue) (kept : List Kept) (settings : List Setting) (from : ℕ) (one : Kept) (new bytes : List ℕ) (place : ℕ)
    → ((bit : ℕ) → IsOutsideFrom d kept settings from bit → report_bit bytes bit ≡ report_bit new bit)
    → IsLeftFrom d kept settings from one → place < one.field.count → value_at one.field bytes place ≡ value_at one.field new place
left_value d kept settings from one new bytes place later left below =
    ap (value_under one.field.min one.field.size) (same_number new bytes (place_bit one.field place) one.field.size (λ i l.
    let same : one.field.bit + (one.field.size * place + i) ≡ place_bit one.field place + i = omega arith in
    let inside : one.field.size * place + i < one.field.size * one.field.count = omega (arith, later_place one.field.size place one.field.count below) in
    later (place_bit one.field place + i) (subst (λ (bit : ℕ). IsOutsideFrom d kept settings from bit) same (left (one.field.size * place + i) inside))))

-- ---- by what is asked

usage_set : (d : DescriptorValue) (kept : List Kept) (setting : Setting) (old new marks_old marks_new : List ℕ) (one : Kept) (usage : ℕ)
    → control_of d kept setting.target ≡ Some (Usage one usage) → IsSet d kept setting old new marks_old marks_new
    → IsUsageSet d one usage setting.asked old new marks_old marks_new
unfolding IsSet
usage_set d kept setting old new marks_old marks_new one usage e s = rw e at s

by_asked : (d : DescriptorValue) (one : Kept) (usage : ℕ) (asked other : Asked) (old new marks_old marks_new : List ℕ) → asked ≡ other
    → IsUsageSet d one usage asked old new marks_old marks_new → IsUsageSet d one usage other old new marks_old marks_new
by_asked d one usage asked other old new marks_old marks_new e s = subst (λ (a : Asked). IsUsageSet d one usage a old new marks_old marks_new) e s

pub asked_set : (d : DescriptorValue) (kept : List Kept) (setting : Setting) (asked : Asked) (old new marks_old marks_new : List ℕ) (one : Kept) (usage : ℕ)
    → control_of d kept setting.target ≡ Some (Usage one usage) → setting.asked ≡ asked → IsSet d kept setting old new marks_old marks_new
    → IsUsageSet d one usage asked old new marks_old marks_new
asked_set d kept setting asked old new marks_old marks_new one usage e a s =
    by_asked d one usage setting.asked asked old new marks_old marks_new a (usage_set d kept setting old new marks_old marks_new one usage e s)

pub asked_taken : (d : DescriptorValue) (kept : List Kept) (setting : Setting) (asked : Asked) (bytes marks : List ℕ) (number : ℕ) (one : Kept) (usage : ℕ)
    → control_of d kept setting.target ≡ Some (Usage one usage) → setting.asked ≡ asked → refusal_at d kept bytes marks number setting ≡ None
    → usage_refusal one.field (usage_list (ranges_at d one.number)) bytes marks usage number asked ≡ None
asked_taken d kept setting asked bytes marks number one usage e a t =
    ap (usage_refusal one.field (usage_list (ranges_at d one.number)) bytes marks usage number) (sym a)
    ∙ sym (refused_by d kept bytes marks number setting (Some (Usage one usage)) e) ∙ t

-- ---- a usage that was put in

over_no : (held over : Bool) (a b : WriteError) (rest : Option WriteError) → (if not held then Some a else (if over then Some b else rest)) ≡ None → over ≡ false
over_no true true a b rest e = absurd (cc)
over_no true false a b rest e = refl
over_no false over a b rest e = absurd (cc)

pub named_by : (array under over : Bool) (listed own : Option ℕ) → array ≡ true → under ≡ false → over ≡ false
    → (if array then (if not under && not over then listed else None) else own) ≡ listed
named_by array under over listed own a u o = rw (a, u, o) refl

listed_here : (usages : List ℕ) (usage number : ℕ) → number_of usages usage ≡ Some number → slice_get usages number ≡ Some usage
listed_here usages usage number e =
    let (within, passes, before) = position-Some (λ other. other == usage) usages number 0 e in
    slice_get-get_or usages number 0 within ∙ ap Some (eqb-true (get_or usages number 0) usage passes)

pub not_under : (a : ℤ) (n : ℕ) → int_lt (a +ℤ pos n) a ≡ false
not_under a n = grind (arith, ints)

pub named_on : (f : Field) (usages : List ℕ) (usage number : ℕ) (old new marks_old marks_new : List ℕ) → f.array ≡ true
    → (s : IsOn f usages usage old new marks_old marks_new) → usage_refusal f usages old marks_old usage number (Value (pos 1)) ≡ None
    → usage_read f usages s.place (value_at f new s.place) ≡ Some usage
named_on f usages usage number old new marks_old marks_new array s taken =
    let value = f.min +ℤ pos s.listed in
    let by_number : on_refusal f usages old marks_old usage number (Some s.listed) ≡ None =
    ap (on_refusal f usages old marks_old usage number) (sym s.number) ∙ taken in
    let over : int_lt f.max value ≡ false = over_no (is_held f.min f.size value) (int_lt f.max value) (TooLarge number) (OutOfRange number) _ by_number in
    ap (usage_read f usages s.place) s.put.there
    ∙ named_by f.array (int_lt value f.min) (int_lt f.max value) (slice_get usages (int_gap f.min value)) _ array (not_under f.min s.listed) over
    ∙ ap (slice_get usages) (gap_of f.min value s.listed refl)
    ∙ listed_here usages usage s.listed s.number
