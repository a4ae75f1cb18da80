-- Settings that ask for what a report holds leave each bit.
use Rattle.std.proofs.Common.{◌≡◌, ℕ, zero, suc, ◌+◌, ◌-◌, ◌*◌, ◌/◌, ◌%◌, ◌^◌, ◌<◌, Bool, List, [], ◌∷◌, refl, sym, ◌∙◌, ap, Some, None}
use Rattle.std.specs.Prelude.{Option, pos, ◌-ℤ◌, ◌+ℤ◌, ◌&&◌, if◌then◌else◌}
use Rattle.std.specs.Option.{option_or}
use Rattle.std.proofs.lemmas.Option.{same_Some}
use Rattle.descriptor_parse.specs.declared.field.Field.{Field}
use Rattle.descriptor_parse.specs.Descriptor.{DescriptorValue, ranges_at, usage_list}
use Rattle.host_extract.specs.Found.{value_at}
use Rattle.host_extract.specs.Numbers.{report_bit, value_under}
use Rattle.field_values.specs.declared.null.Asked.{Asked}
use Rattle.field_values.specs.declared.null.Asked.TheVariants.{Value, Null}
use Rattle.field_values.specs.Held.{place_bit}
use Rattle.field_values.proofs.Reading.{same_number, all_same}
use Rattle.report_write.specs.declared.kept.Kept.{Kept}
use Rattle.report_write.specs.declared.control.Control.{Control}
use Rattle.report_write.specs.declared.control.Control.TheVariants.{Place, Usage}
use Rattle.report_write.specs.declared.setting.Setting.{Setting}
use Rattle.report_write.specs.Firsts.{first}
use Rattle.report_write.specs.Controls.{control_of}
use Rattle.report_write.specs.Arrays.{names, IsOn}
use Rattle.report_write.specs.Settings.{IsPlaceSet, IsControlSet, IsSet, IsAfter}
use Rattle.report_write.specs.Held.{IsNamed, IsHeldIn, AreHeldIn}
use Rattle.report_write.proofs.ArraysCleared.{names_same}

-- ---- bytes by their bits

-- two reports have the same bits
abbrev pub SameBits : List ℕ → List ℕ → Type 0
SameBits now old = (bit : ℕ) → report_bit now bit ≡ report_bit old bit

pub same_value : (field : Field) (old now : List ℕ) (place : ℕ) → SameBits now old → value_at field now place ≡ value_at field old place
same_value field old now place same =
    ap (value_under field.min field.size) (same_number old now (place_bit field place) field.size (λ i l. same (place_bit field place + i)))

-- ---- one setting

first_same : (a b : ℕ → Bool) (n : ℕ) → ((k : ℕ) → a k ≡ b k) → first a n ≡ first b n
unfolding first
first_same a b zero h = refl
first_same a b (suc n) h = rw (first_same a b n h, h n) refl

chosen_first : (a b : Option ℕ) (m n : ℕ) → a ≡ Some m → option_or a b ≡ Some n → n ≡ m
chosen_first (Some x) b m n e o = cc
chosen_first None b m n e o = absurd (cc)

on_stays : (field : Field) (usages : List ℕ) (usage : ℕ) (given old new marks_old marks_new : List ℕ) → SameBits old given
    → IsNamed field usages usage given → IsOn field usages usage old new marks_old marks_new → SameBits new old
on_stays field usages usage given old new marks_old marks_new same n s =
    let tests : first (names field usages old usage) field.count ≡ first (names field usages given usage) field.count =
    first_same (names field usages old usage) (names field usages given usage) field.count
    (λ k. sym (names_same field usages given old usage k (same_value field given old k same))) in
    let place : s.place ≡ n.place = chosen_first (first (names field usages old usage) field.count) _ n.place s.place (tests ∙ n.named) s.chosen in
    let listed : s.listed ≡ n.listed = same_Some _ _ (sym s.number ∙ n.number) in
    let holds : value_at field old s.place ≡ field.min +ℤ pos s.listed =
    same_value field given old s.place same ∙ ap (value_at field given) place ∙ n.value ∙ ap (λ k. field.min +ℤ pos k) (sym listed) in
    all_same field old new s.place s.put.others (s.put.there ∙ sym holds)

place_stays : (d : DescriptorValue) (kept : Kept) (place : ℕ) (asked : Asked) (given old new marks_old marks_new : List ℕ) → SameBits old given
    → IsHeldIn d given asked (Place kept place) → IsPlaceSet kept place asked old new marks_old marks_new → SameBits new old
place_stays d kept place asked given old new marks_old marks_new same h s =
    let value : s.value ≡ value_at kept.field given place = same_Some _ _ (sym s.asked_for ∙ h) in
    all_same kept.field old new place s.put.others (s.put.there ∙ value ∙ sym (same_value kept.field given old place same))

control_stays : (d : DescriptorValue) (found : Option Control) (asked : Asked) (given old new marks_old marks_new : List ℕ) → SameBits old given
    → ((control : Control) → found ≡ Some control → IsHeldIn d given asked control)
    → IsControlSet d found asked old new marks_old marks_new → SameBits new old
control_stays d None asked given old new marks_old marks_new same h s = absurd s
control_stays d (Some (Place kept place)) asked given old new marks_old marks_new same h s =
    place_stays d kept place asked given old new marks_old marks_new same (h (Place kept place) refl) s
control_stays d (Some (Usage kept usage)) Null given old new marks_old marks_new same h s = absurd s
control_stays d (Some (Usage kept usage)) (Value value) given old new marks_old marks_new same h s =
    let (one, named) = h (Usage kept usage) refl in
    let is : value ≡ pos 1 = cc in
    on_stays kept.field (usage_list (ranges_at d kept.number)) usage given old new marks_old marks_new same named (rw is at s)

set_stays : (d : DescriptorValue) (kept : List Kept) (setting : Setting) (given old new marks_old marks_new : List ℕ) → SameBits old given
    → ((control : Control) → control_of d kept setting.target ≡ Some control → IsHeldIn d given setting.asked control)
    → IsSet d kept setting old new marks_old marks_new → SameBits new old
unfolding IsSet
set_stays d kept setting given old new marks_old marks_new same h s =
    control_stays d (control_of d kept setting.target) setting.asked given old new marks_old marks_new same h s

-- ---- all settings

pub held_stay : (d : DescriptorValue) (kept : List Kept) (settings : List Setting) (start clear : List ℕ) → AreHeldIn d kept settings start
    → (count : ℕ) (bytes marks : List ℕ) → IsAfter d kept settings start clear count bytes marks → SameBits bytes start
held_stay d kept settings start clear held count bytes marks IsAfter.Begun bit = refl
held_stay d kept settings start clear held count bytes marks (IsAfter.Next number setting old new marks_old marks_new before here taken s) bit =
    let same : SameBits old start = held_stay d kept settings start clear held number old marks_old before in
    set_stays d kept setting start old new marks_old marks_new same (λ control is. held number setting control here is) s bit ∙ same bit
