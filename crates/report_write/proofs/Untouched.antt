-- Bits that settings leave, and what a place that is set holds after them.
use Rattle.std.proofs.Common.{◌≡◌, ℕ, zero, suc, ◌+◌, ◌*◌, ◌<◌, Bool, true, false, List, ◌∷◌, length, drop, arith, refl, sym, ◌∙◌, ap, inl, inr, Some, None}
use Rattle.std.specs.Prelude.{Option, pos, if◌then◌else◌, slice_get}
use Rattle.std.specs.Ordering.{int_eq}
use Rattle.std.proofs.lemmas.Bool.{cases_order}
use Rattle.std.proofs.lemmas.Option.{none-some, same_Some}
use Rattle.std.specs.Option.{option_or}
use Rattle.descriptor_parse.specs.declared.field.Field.{Field}
use Rattle.descriptor_parse.specs.Descriptor.{DescriptorValue}
use Rattle.host_extract.specs.Found.{value_at, bytes_of}
use Rattle.host_extract.specs.Numbers.{report_bit, value_under}
use Rattle.field_values.specs.declared.null.Asked.{Asked}
use Rattle.field_values.specs.declared.null.Asked.TheVariants.{Value, Null}
use Rattle.field_values.specs.Places.{IsOutside}
use Rattle.field_values.specs.Held.{place_bit}
use Rattle.field_values.specs.Nulls.{asked_value}
use Rattle.field_values.proofs.Reading.{same_number, later_place}
use Rattle.report_write.specs.declared.kept.Kept.{Kept}
use Rattle.report_write.specs.declared.control.Control.{Control}
use Rattle.report_write.specs.declared.control.Control.TheVariants.{Place, Usage}
use Rattle.report_write.specs.declared.setting.Setting.{Setting}
use Rattle.report_write.specs.Firsts.{first}
use Rattle.report_write.proofs.Firsts.{either_is}
use Rattle.report_write.specs.Controls.{control_of}
use Rattle.report_write.specs.Settings.{IsPlaceSet, IsSwitched, IsControlSet, IsSet, IsAfter}
use Rattle.report_write.specs.Untouched.{IsOutsideControl, IsOutsideFrom}
use Rattle.report_write.specs.Written.{with_id}

-- ---- the place where a usage is put

this_one : (b : Bool) (n k : ℕ) → (if b then Some n else None) ≡ Some k → n ≡ k
this_one true n k e = same_Some _ _ e
this_one false n k e = absurd (none-some k e)

first_below : (test : ℕ → Bool) (n k : ℕ) → first test n ≡ Some k → k < n
unfolding first
first_below test zero k e = absurd (none-some k e)
first_below test (suc n) k e = elim (either_is (first test n) (if test n then Some n else None) k e) [
  | inl before ↦ omega (arith, first_below test n k before)
  | inr here ↦ omega (arith, this_one (test n) n k here)
]

pub either_below : (a b : ℕ → Bool) (n k : ℕ) → option_or (first a n) (first b n) ≡ Some k → k < n
either_below a b n k e = elim (either_is (first a n) (first b n) k e) [
  | inl one ↦ first_below a n k one
  | inr other ↦ first_below b n k other
]

-- ---- one setting

within_field : (field : Field) (place bit : ℕ) → place < field.count → IsOutside field.bit (field.size * field.count) bit
    → IsOutside (place_bit field place) field.size bit
within_field field place bit l out = elim out [
  | inl low ↦ inl (omega arith)
  | inr high ↦ inr (omega (arith, later_place field.size place field.count l))
]

by_switch : (off : Bool) (field : Field) (usages : List ℕ) (usage : ℕ) (old new marks_old marks_new : List ℕ) (bit : ℕ)
    → IsOutside field.bit (field.size * field.count) bit → IsSwitched off field usages usage old new marks_old marks_new
    → report_bit new bit ≡ report_bit old bit
by_switch true field usages usage old new marks_old marks_new bit out s =
    s.put.others bit (λ place below _. within_field field place bit below out)
by_switch false field usages usage old new marks_old marks_new bit out s =
    s.put.others bit (within_field field s.place bit (either_below _ _ field.count s.place s.chosen) out)

switch_long : (off : Bool) (field : Field) (usages : List ℕ) (usage : ℕ) (old new marks_old marks_new : List ℕ)
    → IsSwitched off field usages usage old new marks_old marks_new → length new ≡ length old
switch_long true field usages usage old new marks_old marks_new s = s.put.long
switch_long false field usages usage old new marks_old marks_new s = s.put.long

by_control : (d : DescriptorValue) (found : Option Control) (asked : Asked) (old new marks_old marks_new : List ℕ) (bit : ℕ)
    → ((control : Control) → found ≡ Some control → IsOutsideControl control bit) → IsControlSet d found asked old new marks_old marks_new
    → report_bit new bit ≡ report_bit old bit
by_control d None asked old new marks_old marks_new bit h s = absurd s
by_control d (Some (Place kept place)) asked old new marks_old marks_new bit h s = s.put.others bit (h (Place kept place) refl)
by_control d (Some (Usage kept usage)) Null old new marks_old marks_new bit h s = absurd s
by_control d (Some (Usage kept usage)) (Value value) old new marks_old marks_new bit h s =
    by_switch (int_eq value (pos 0)) kept.field _ usage old new marks_old marks_new bit (h (Usage kept usage) refl) s

pub bit_stays : (d : DescriptorValue) (kept : List Kept) (setting : Setting) (old new marks_old marks_new : List ℕ) (bit : ℕ)
    → ((control : Control) → control_of d kept setting.target ≡ Some control → IsOutsideControl control bit)
    → IsSet d kept setting old new marks_old marks_new → report_bit new bit ≡ report_bit old bit
unfolding IsSet
bit_stays d kept setting old new marks_old marks_new bit h s =
    by_control d (control_of d kept setting.target) setting.asked old new marks_old marks_new bit h s

place_set : (d : DescriptorValue) (kept : List Kept) (setting : Setting) (old new marks_old marks_new : List ℕ) (one : Kept) (place : ℕ)
    → control_of d kept setting.target ≡ Some (Place one place) → IsSet d kept setting old new marks_old marks_new
    → IsPlaceSet one place setting.asked old new marks_old marks_new
unfolding IsSet
place_set d kept setting old new marks_old marks_new one place e s = rw e at s

-- ---- all settings

pub all_stay : (d : DescriptorValue) (kept : List Kept) (settings : List Setting) (start clear : List ℕ) (bit : ℕ) → IsOutsideFrom d kept settings 0 bit
    → (count : ℕ) (bytes marks : List ℕ) → IsAfter d kept settings start clear count bytes marks → report_bit bytes bit ≡ report_bit start bit
all_stay d kept settings start clear bit out count bytes marks IsAfter.Begun = refl
all_stay d kept settings start clear bit out count bytes marks (IsAfter.Next number setting old new marks_old marks_new before here taken s) =
    bit_stays d kept setting old new marks_old marks_new bit (λ control is. out number setting control (omega arith) here is) s
    ∙ all_stay d kept settings start clear bit out number old marks_old before

pub still_there : (d : DescriptorValue) (kept : List Kept) (settings : List Setting) (start clear : List ℕ) (place_of : ℕ) (setting : Setting) (one : Kept) (place : ℕ)
    → slice_get settings place_of ≡ Some setting → control_of d kept setting.target ≡ Some (Place one place)
    → ((i : ℕ) → i < one.field.size → IsOutsideFrom d kept settings (place_of + 1) (place_bit one.field place + i))
    → (count : ℕ) (bytes marks : List ℕ) → IsAfter d kept settings start clear count bytes marks → place_of < count
    → asked_value one.field setting.asked ≡ Some (value_at one.field bytes place)
still_there d kept settings start clear n setting one place at is out count bytes marks IsAfter.Begun l = absurd (omega arith)
still_there d kept settings start clear n setting one place at is out count bytes marks (IsAfter.Next number other old new marks_old marks_new before here taken s) l =
    elim (cases_order n number) [
      | inl same ↦ (let its : setting ≡ other = same_Some _ _ (sym at ∙ ap (slice_get settings) same ∙ here) in
          let set = place_set d kept setting old new marks_old marks_new one place is (rw its s) in
          set.asked_for ∙ ap Some (sym set.put.there))
      | inr (inl earlier) ↦ (let kept_there = still_there d kept settings start clear n setting one place at is out number old marks_old before earlier in
          let same_bits = same_number old new (place_bit one.field place) one.field.size
          (λ i m. bit_stays d kept other old new marks_old marks_new (place_bit one.field place + i) (λ control c. out i m number other control (omega arith) here c) s) in
          kept_there ∙ ap (λ v. Some (value_under one.field.min one.field.size v)) (sym same_bits))
      | inr (inr later) ↦ absurd (omega arith)
    ]

-- ---- the length

control_long : (d : DescriptorValue) (found : Option Control) (asked : Asked) (old new marks_old marks_new : List ℕ)
    → IsControlSet d found asked old new marks_old marks_new → length new ≡ length old
control_long d None asked old new marks_old marks_new s = absurd s
control_long d (Some (Place kept place)) asked old new marks_old marks_new s = s.put.long
control_long d (Some (Usage kept usage)) Null old new marks_old marks_new s = absurd s
control_long d (Some (Usage kept usage)) (Value value) old new marks_old marks_new s =
    switch_long (int_eq value (pos 0)) kept.field _ usage old new marks_old marks_new s

set_long : (d : DescriptorValue) (kept : List Kept) (setting : Setting) (old new marks_old marks_new : List ℕ)
    → IsSet d kept setting old new marks_old marks_new → length new ≡ length old
unfolding IsSet
set_long d kept setting old new marks_old marks_new s = control_long d (control_of d kept setting.target) setting.asked old new marks_old marks_new s

pub all_long : (d : DescriptorValue) (kept : List Kept) (settings : List Setting) (start clear : List ℕ) (count : ℕ) (bytes marks : List ℕ)
    → IsAfter d kept settings start clear count bytes marks → length bytes ≡ length start
all_long d kept settings start clear count bytes marks IsAfter.Begun = refl
all_long d kept settings start clear count bytes marks (IsAfter.Next number setting old new marks_old marks_new before here taken s) =
    set_long d kept setting old new marks_old marks_new s ∙ all_long d kept settings start clear number old marks_old before

-- ---- the bytes after the ID

back : (uses_ids : Bool) (id : ℕ) (bytes : List ℕ)
    → (if uses_ids then drop 1 (if uses_ids then id ∷ bytes else bytes) else (if uses_ids then id ∷ bytes else bytes)) ≡ bytes
back true id bytes = refl
back false id bytes = refl

pub bytes_back : (d : DescriptorValue) (id : ℕ) (bytes : List ℕ) → bytes_of d (with_id d id bytes) ≡ bytes
bytes_back d id bytes = back d.uses_ids id bytes
