-- What holds of a report that is written.
use Rattle.std.proofs.Common.{◌≡◌, ℕ, zero, suc, ◌+◌, ◌<◌, ◌≤◌, Bool, true, false, List, [], ◌∷◌, length, drop, arith, refl, sym, ◌∙◌, ap, Some, None}
use Rattle.std.specs.Prelude.{Option, ℤ, pos, ◌==◌, nat_lt, not, slice_get, slice_index, if◌then◌else◌}
use Rattle.std.proofs.lemmas.Bool.{eqb-true, lt-ltb}
use Rattle.std.proofs.lemmas.Option.{slice_get_within, none-some, same_Some}
use Rattle.descriptor_parse.specs.declared.field.Kind.{Kind}
use Rattle.descriptor_parse.specs.Descriptor.{DescriptorValue}
use Rattle.host_extract.specs.Found.{value_at, bytes_of, named, reading_at}
use Rattle.host_extract.specs.Numbers.{report_bit}
use Rattle.field_values.specs.declared.null.Asked.TheVariants.{Value}
use Rattle.field_values.specs.Places.{IsOutside}
use Rattle.field_values.specs.Held.{place_bit}
use Rattle.field_values.specs.Nulls.{asked_value}
use Rattle.field_values.specs.Values.{usage_read}
use Rattle.field_values.proofs.Reading.{extracted, written_back}
use Rattle.report_write.specs.declared.kept.Kept.{Kept}
use Rattle.report_write.specs.declared.control.Control.TheVariants.{Place}
use Rattle.report_write.specs.declared.setting.Setting.{Setting}
use Rattle.report_write.specs.declared.setting.Target.{Target}
use Rattle.report_write.specs.declared.setting.WriteError.TheVariants.{OtherId, Short}
use Rattle.report_write.specs.Begins.{given_refusal}
use Rattle.report_write.specs.Controls.{control_of}
use Rattle.report_write.specs.Fields.{kept_fields}
use Rattle.report_write.specs.Untouched.{IsOutsideFrom}
use Rattle.report_write.specs.Held.{AreHeldIn}
use Rattle.report_write.specs.Written.{IsWritten}
use Rattle.field_values.proofs.Reading.{same_bytes}
use Rattle.report_write.proofs.Held.{held_stay}
use Rattle.report_write.proofs.Untouched.{all_stay, still_there, all_long, bytes_back}

pub bytes_are : (d : DescriptorValue) (null_states : List Bool) (kind : Kind) (id : ℕ) (settings : List Setting) (onto : Option (List ℕ)) (report : List ℕ)
    → (w : IsWritten d null_states kind id settings onto report) → bytes_of d report ≡ w.bytes
bytes_are d null_states kind id settings onto report w = ap (bytes_of d) w.whole ∙ bytes_back d id w.bytes

pub other_bits : (d : DescriptorValue) (null_states : List Bool) (kind : Kind) (id : ℕ) (settings : List Setting) (given report : List ℕ) (bit : ℕ)
    → IsWritten d null_states kind id settings (Some given) report
    → IsOutsideFrom d (kept_fields d null_states kind id) settings 0 bit
    → report_bit (bytes_of d report) bit ≡ report_bit (bytes_of d given) bit
other_bits d null_states kind id settings given report bit w out =
    ap (λ bytes. report_bit bytes bit) (bytes_are d null_states kind id settings (Some given) report w)
    ∙ all_stay d (kept_fields d null_states kind id) settings w.start _ bit out (length settings) w.bytes w.marks w.set
    ∙ ap (λ bytes. report_bit bytes bit) w.starts

pub value_is_read : (d : DescriptorValue) (null_states : List Bool) (kind : Kind) (id : ℕ) (settings : List Setting) (onto : Option (List ℕ)) (report : List ℕ)
    (number : ℕ) (setting : Setting) (kept : Kept) (place : ℕ)
    → IsWritten d null_states kind id settings onto report
    → slice_get settings number ≡ Some setting
    → control_of d (kept_fields d null_states kind id) setting.target ≡ Some (Place kept place)
    → ((i : ℕ) → i < kept.field.size → IsOutsideFrom d (kept_fields d null_states kind id) settings (number + 1) (place_bit kept.field place + i))
    → asked_value kept.field setting.asked ≡ Some (value_at kept.field (bytes_of d report) place)
value_is_read d null_states kind id settings onto report number setting kept place w at is out =
    still_there d (kept_fields d null_states kind id) settings w.start _ number setting kept place at is out (length settings) w.bytes w.marks w.set
    (slice_get_within settings number setting at)
    ∙ ap (λ bytes. Some (value_at kept.field bytes place)) (sym (bytes_are d null_states kind id settings onto report w))

pub usage_is_found : (d : DescriptorValue) (null_states : List Bool) (kind : Kind) (id : ℕ) (settings : List Setting) (onto : Option (List ℕ)) (report : List ℕ)
    (number : ℕ) (setting : Setting) (kept : Kept) (place : ℕ) (usages : List ℕ) (value : ℤ)
    → IsWritten d null_states kind id settings onto report
    → slice_get settings number ≡ Some setting
    → control_of d (kept_fields d null_states kind id) setting.target ≡ Some (Place kept place)
    → ((i : ℕ) → i < kept.field.size → IsOutsideFrom d (kept_fields d null_states kind id) settings (number + 1) (place_bit kept.field place + i))
    → asked_value kept.field setting.asked ≡ Some value
    → reading_at kept.field usages (bytes_of d report) place ≡ named (usage_read kept.field usages place value) (if kept.field.array then pos 1 else value)
usage_is_found d null_states kind id settings onto report number setting kept place usages value w at is out asked =
    let there = value_is_read d null_states kind id settings onto report number setting kept place w at is out in
    let holds : value_at kept.field (bytes_of d report) place ≡ value = same_Some _ _ (sym there ∙ asked) in
    extracted kept.field usages (bytes_of d report) place
    ∙ ap (λ v. named (usage_read kept.field usages place v) (if kept.field.array then pos 1 else v)) holds

pub as_long : (d : DescriptorValue) (null_states : List Bool) (kind : Kind) (id : ℕ) (settings : List Setting) (given report : List ℕ)
    → IsWritten d null_states kind id settings (Some given) report → length (bytes_of d report) ≡ length (bytes_of d given)
as_long d null_states kind id settings given report w =
    ap length (bytes_are d null_states kind id settings (Some given) report w)
    ∙ all_long d (kept_fields d null_states kind id) settings w.start _ (length settings) w.bytes w.marks w.set
    ∙ ap length w.starts

-- ---- what was read is written back

-- a bit outside the place that the only setting means
only_outside : (d : DescriptorValue) (kept : List Kept) (only : Setting) (one : Kept) (place bit : ℕ) → control_of d kept only.target ≡ Some (Place one place)
    → IsOutside (place_bit one.field place) one.field.size bit → IsOutsideFrom d kept (only ∷ []) 0 bit
only_outside d kept only one place bit is out zero setting control l here c =
    let its : only ≡ setting = same_Some _ _ here in
    let means : Place one place ≡ control = same_Some _ _ (sym is ∙ ap (λ s. control_of d kept s.target) its ∙ c) in
    rw (sym means) out
only_outside d kept only one place bit is out (suc number) setting control l here c = absurd (none-some setting here)

-- no setting comes after the only one
none_after : (d : DescriptorValue) (kept : List Kept) (only : Setting) (bit : ℕ) → IsOutsideFrom d kept (only ∷ []) (0 + 1) bit
none_after d kept only bit zero setting control l here c = absurd (omega arith)
none_after d kept only bit (suc number) setting control l here c = absurd (none-some setting here)

len_some : (no_bits uses_ids : Bool) (bytes len : ℕ) → (if no_bits then None else Some (bytes + (if uses_ids then 1 else 0))) ≡ Some len → uses_ids ≡ true → 1 ≤ len
len_some true uses_ids bytes len e u = absurd (none-some len e)
len_some false true bytes len e u = let same : bytes + 1 ≡ len = same_Some _ _ e in omega arith
len_some false false bytes len e u = absurd (cc)

same_id : (same : Bool) (short : Bool) → (if not same then Some OtherId else (if short then Some Short else None)) ≡ None → same ≡ true
same_id true short e = refl
same_id false short e = absurd (cc)

whole_back : (uses_ids : Bool) (id len : ℕ) (given report bytes : List ℕ) → report ≡ (if uses_ids then id ∷ bytes else bytes)
    → given_refusal uses_ids id len (Some given) ≡ None → (uses_ids ≡ true → 1 ≤ len) → bytes ≡ (if uses_ids then drop 1 given else given) → report ≡ given
whole_back false id len given report bytes w r s e = w ∙ e
whole_back true id len [] report bytes w r s e =
    let some : 1 ≤ len = s refl in
    absurd (none-some Short (sym r ∙ rw (lt-ltb 0 len some) refl))
whole_back true id len (first ∷ rest) report bytes w r s e =
    let same : first ≡ id = eqb-true first id (same_id (first == id) (nat_lt (length (first ∷ rest)) len) r) in
    w ∙ rw (same, e) refl

byte_of : (uses_ids : Bool) (report : List ℕ) → ((i : ℕ) → slice_index report i < 256) → (i : ℕ) → slice_index (if uses_ids then drop 1 report else report) i < 256
byte_of false report h i = h i
byte_of true [] h i = h i
byte_of true (first ∷ rest) h i = h (suc i)

byte_after : (d : DescriptorValue) (report : List ℕ) → ((i : ℕ) → slice_index report i < 256) → (i : ℕ) → slice_index (bytes_of d report) i < 256
byte_after d report h i = byte_of d.uses_ids report h i

pub written_as_read : (d : DescriptorValue) (null_states : List Bool) (kind : Kind) (id : ℕ) (target : Target) (given report : List ℕ) (kept : Kept) (place : ℕ)
    → ((i : ℕ) → slice_index given i < 256) → ((i : ℕ) → slice_index report i < 256)
    → control_of d (kept_fields d null_states kind id) target ≡ Some (Place kept place)
    → IsWritten d null_states kind id (record { target = target; asked = Value (value_at kept.field (bytes_of d given) place) } ∷ []) (Some given) report
    → report ≡ given
written_as_read d null_states kind id target given report kept place a b is w =
    let only : Setting = record { target = target; asked = Value (value_at kept.field (bytes_of d given) place) } in
    let all = kept_fields d null_states kind id in
    let there = value_is_read d null_states kind id (only ∷ []) (Some given) report 0 only kept place w refl is
    (λ i l. none_after d all only (place_bit kept.field place + i)) in
    let same : bytes_of d report ≡ bytes_of d given = written_back kept.field (bytes_of d given) (bytes_of d report) place (byte_after d given a) (byte_after d report b)
    (as_long d null_states kind id (only ∷ []) given report w)
    (λ bit out. other_bits d null_states kind id (only ∷ []) given report bit w (only_outside d all only kept place bit is out))
    (sym (same_Some _ _ there)) in
    whole_back d.uses_ids id w.len given report w.bytes w.whole w.begun (len_some _ d.uses_ids _ w.len w.known)
    (sym (bytes_are d null_states kind id (only ∷ []) (Some given) report w) ∙ same)

pub held_written_back : (d : DescriptorValue) (null_states : List Bool) (kind : Kind) (id : ℕ) (settings : List Setting) (given report : List ℕ)
    → ((i : ℕ) → slice_index given i < 256) → ((i : ℕ) → slice_index report i < 256)
    → AreHeldIn d (kept_fields d null_states kind id) settings (bytes_of d given)
    → IsWritten d null_states kind id settings (Some given) report
    → report ≡ given
held_written_back d null_states kind id settings given report a b held w =
    let all = kept_fields d null_states kind id in
    let are = bytes_are d null_states kind id settings (Some given) report w in
    let start : w.start ≡ bytes_of d given = w.starts in
    let same : bytes_of d report ≡ bytes_of d given = same_bytes (bytes_of d given) (bytes_of d report) (byte_after d given a) (byte_after d report b)
    (as_long d null_states kind id settings given report w)
    (λ bit. ap (λ bytes. report_bit bytes bit) are
    ∙ held_stay d all settings w.start _ (rw start held) (length settings) w.bytes w.marks w.set bit
    ∙ ap (λ bytes. report_bit bytes bit) start) in
    whole_back d.uses_ids id w.len given report w.bytes w.whole w.begun (len_some _ d.uses_ids _ w.len w.known) (sym are ∙ same)
