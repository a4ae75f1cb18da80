use Rattle.std.proofs.Common.{◌≡◌, ◌≢◌, ℕ, zero, suc, ◌+◌, ◌/◌, ◌<◌, ◌≤◌, Bool, true, false, List, [], ◌∷◌, length, arith, refl, sym, ◌∙◌, ap, Some, None}
use Rattle.std.specs.Prelude.{◌==◌, IsSome, if◌then◌else◌}
use Rattle.std.proofs.lemmas.Bool.{lt-ltb, le-ltb}
use Rattle.std.proofs.lemmas.Bool.Decides.{nat_tests}
use Rattle.descriptor_parse.specs.declared.field.Kind.{Kind}
use Rattle.descriptor_parse.specs.declared.field.Kind.TheVariants.{Input, Output, Feature}
use Rattle.descriptor_parse.specs.Descriptor.{DescriptorValue, Describes, bits_of, report_len}
use Rattle.descriptor_parse.specs.Items.{ItemValue, items_at, first_items}
use Rattle.descriptor_parse.specs.Faults.{all_items}
use Rattle.descriptor_parse.specs.Fields.{fields, field_usages, report_bits, has_report_id}
use Rattle.descriptor_parse.specs.Globals.{in_force}
use Rattle.descriptor_parse.specs.Tags.{tag_of}
use Rattle.host_extract.specs.Boot.{boot_descriptor_bytes}
use Rattle.host_extract.specs.Refusals.{refusal, refused_by_len}

unfoldable pub boot_items : List ItemValue
boot_items =
    record { offset = 38; prefix = 192; bytes = [] } ∷
    record { offset = 36; prefix = 129; bytes = 0 ∷ [] } ∷
    record { offset = 34; prefix = 41; bytes = 164 ∷ [] } ∷
    record { offset = 32; prefix = 25; bytes = 0 ∷ [] } ∷
    record { offset = 30; prefix = 37; bytes = 164 ∷ [] } ∷
    record { offset = 28; prefix = 149; bytes = 6 ∷ [] } ∷
    record { offset = 26; prefix = 129; bytes = 3 ∷ [] } ∷
    record { offset = 24; prefix = 117; bytes = 8 ∷ [] } ∷
    record { offset = 22; prefix = 149; bytes = 1 ∷ [] } ∷
    record { offset = 20; prefix = 129; bytes = 2 ∷ [] } ∷
    record { offset = 18; prefix = 149; bytes = 8 ∷ [] } ∷
    record { offset = 16; prefix = 117; bytes = 1 ∷ [] } ∷
    record { offset = 14; prefix = 37; bytes = 1 ∷ [] } ∷
    record { offset = 12; prefix = 21; bytes = 0 ∷ [] } ∷
    record { offset = 10; prefix = 41; bytes = 231 ∷ [] } ∷
    record { offset = 8; prefix = 25; bytes = 224 ∷ [] } ∷
    record { offset = 6; prefix = 5; bytes = 7 ∷ [] } ∷
    record { offset = 4; prefix = 161; bytes = 1 ∷ [] } ∷
    record { offset = 2; prefix = 9; bytes = 6 ∷ [] } ∷
    record { offset = 0; prefix = 5; bytes = 1 ∷ [] } ∷
    []

pub boot-items : all_items boot_descriptor_bytes ≡ boot_items
unfolding all_items items_at first_items boot_descriptor_bytes boot_items
boot-items = refl

pub boot-ids : has_report_id boot_items ≡ false
unfolding boot_items tag_of
boot-ids = refl

-- a descriptor of the boot reports
abbrev pub boot_value : DescriptorValue
boot_value = record {
  fields = fields (all_items boot_descriptor_bytes);
  ranges = field_usages (all_items boot_descriptor_bytes);
  uses_ids = has_report_id (all_items boot_descriptor_bytes);
  totals = record { input = 64; output = 0; feature = 0 } ∷ [];
}

apart : (n : ℕ) → (0 == suc n) ≡ false
apart n = grind (arith, nat_tests)

boot-bits : (kind : Kind) (id : ℕ) → bits_of boot_value kind id ≡ report_bits kind id boot_items
unfolding boot_items report_bits in_force tag_of
boot-bits Input zero = refl
boot-bits Input (suc n) = simp (apart n)
boot-bits Output zero = refl
boot-bits Output (suc n) = refl
boot-bits Feature zero = refl
boot-bits Feature (suc n) = refl

pub boot-describes : Describes (all_items boot_descriptor_bytes) boot_value
boot-describes = record {
  fields = refl;
  ranges = refl;
  uses_ids = refl;
  bits = λ kind id. boot-bits kind id ∙ sym (ap (report_bits kind id) boot-items);
}

-- ---- which boot reports are refused

boot-len : (d : DescriptorValue) → Describes (all_items boot_descriptor_bytes) d → report_len d Input 0 ≡ Some 8
boot-len d h =
    let b : bits_of d Input 0 ≡ 64 = h.bits Input 0 ∙ ap (report_bits Input 0) boot-items ∙ sym (boot-bits Input 0) in
    let u : d.uses_ids ≡ false = h.uses_ids ∙ ap (λ items. has_report_id items) boot-items ∙ boot-ids in
    rw (b, u) refl

boot-by-len : (d : DescriptorValue) (b : ℕ) (bs : List ℕ) → Describes (all_items boot_descriptor_bytes) d → refusal d (b ∷ bs) ≡ refused_by_len d (b ∷ bs) (Some 8)
unfolding refusal
boot-by-len d b bs h =
    let u : d.uses_ids ≡ false = h.uses_ids ∙ ap (λ items. has_report_id items) boot-items ∙ boot-ids in
    ap (λ x. refused_by_len d (b ∷ bs) (report_len d Input (if x then b else 0))) u ∙ ap (refused_by_len d (b ∷ bs)) (boot-len d h)

pub boot-short : (d : DescriptorValue) (report : List ℕ) → Describes (all_items boot_descriptor_bytes) d → length report < 8 → IsSome (refusal d report)
unfolding refusal
boot-short d [] h l = refl
boot-short d (b ∷ bs) h l = rw (boot-by-len d b bs h, lt-ltb (length (b ∷ bs)) 8 l) refl

pub boot-long : (d : DescriptorValue) (report : List ℕ) → Describes (all_items boot_descriptor_bytes) d → 8 ≤ length report → refusal d report ≡ None
boot-long d [] h l = absurd (omega arith)
boot-long d (b ∷ bs) h l = boot-by-len d b bs h ∙ rw (le-ltb (length (b ∷ bs)) 8 l) refl
