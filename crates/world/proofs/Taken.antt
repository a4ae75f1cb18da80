use Rattle.std.proofs.Common.{◌≡◌, ℕ, ◌+◌, ◌/◌, ◌≤◌, Bool, true, false, List, ◌∷◌, length, arith, refl, ◌∙◌, ap, None}
use Rattle.std.specs.Prelude.{◌==◌, take, if◌then◌else◌}
use Rattle.std.proofs.lemmas.Bool.{le-ltb}
use Rattle.descriptor_parse.specs.declared.field.Kind.TheVariants.{Input}
use Rattle.descriptor_parse.specs.Descriptor.{DescriptorValue, Describes, bits_of, report_len}
use Rattle.descriptor_parse.specs.Faults.{all_items}
use Rattle.descriptor_parse.specs.Fields.{report_bits, has_report_id}
use Rattle.descriptor_parse.specs.Globals.{in_force}
use Rattle.descriptor_parse.specs.Tags.{tag_of}
use Rattle.descriptor_build.specs.Served.{report_bytes}
use Rattle.host_extract.specs.Boot.{boot_descriptor_bytes}
use Rattle.host_extract.specs.Refusals.{refusal, refused_by_len}
use Rattle.reports.specs.Wanted.{boot_bytes, bitmap_bytes, bytes_of, bitmap_bit, consumer_bytes, consumer_listed, padded, words_of}
use Rattle.reports.proofs.LayoutTheorems.{boot-layout, bitmap-layout}
use Rattle.world.proofs.Served.{served_items, served-items}
use Rattle.world.proofs.Bitmap.{served-ids}
use Rattle.host.proofs.BootLemmas.{boot-long}
use Rattle.world.proofs.ConsumerRead.{consumer-size}

-- the bits of the input reports
bits-one : report_bits Input 1 served_items ≡ 176
unfolding served_items report_bits in_force tag_of
bits-one = refl

bits-two : report_bits Input 2 served_items ≡ 64
unfolding served_items report_bits in_force tag_of
bits-two = refl

-- a report that is as long as its bits say
long-enough : (d : DescriptorValue) (uses : Bool) (id bits : ℕ) (report : List ℕ) → d.uses_ids ≡ uses → bits_of d Input id ≡ bits → (bits == 0) ≡ false
    → (bits + 7) / 8 + (if uses then 1 else 0) ≤ length report → refused_by_len d report (report_len d Input id) ≡ None
long-enough d uses id bits report u b n l =
    rw (b, u, n) (rw (le-ltb (length report) ((bits + 7) / 8 + (if uses then 1 else 0)) l) refl)

taken-of : (d : DescriptorValue) (uses : Bool) (first bits : ℕ) (rest : List ℕ) → d.uses_ids ≡ uses → bits_of d Input (if uses then first else 0) ≡ bits → (bits == 0) ≡ false
    → (bits + 7) / 8 + (if uses then 1 else 0) ≤ length (first ∷ rest) → refusal d (first ∷ rest) ≡ None
unfolding refusal
taken-of d uses first bits rest u b n l =
    ap (λ x. refused_by_len d (first ∷ rest) (report_len d Input (if x then first else 0))) u ∙ long-enough d uses (if uses then first else 0) bits (first ∷ rest) u b n l

served-uses : (d : DescriptorValue) → Describes (all_items report_bytes) d → d.uses_ids ≡ true
served-uses d h = h.uses_ids ∙ ap (λ items. has_report_id items) served-items ∙ served-ids

pub bitmap-taken : (keys : ℕ → Bool) (d : DescriptorValue) → Describes (all_items report_bytes) d → refusal d (bitmap_bytes keys) ≡ None
unfolding bitmap_bytes
bitmap-taken keys d h =
    taken-of d true 1 176 (bytes_of (bitmap_bit keys) 22) (served-uses d h) (h.bits Input 1 ∙ ap (report_bits Input 1) served-items ∙ bits-one) refl
    (omega (arith, (bitmap-layout keys).size))

pub consumer-taken : (consumer : ℕ → Bool) (d : DescriptorValue) → Describes (all_items report_bytes) d → refusal d (consumer_bytes consumer) ≡ None
unfolding consumer_bytes
consumer-taken consumer d h =
    taken-of d true 2 64 (words_of (padded (take 4 (consumer_listed consumer)))) (served-uses d h) (h.bits Input 2 ∙ ap (report_bits Input 2) served-items ∙ bits-two) refl
    (omega (arith, consumer-size consumer))

pub boot-taken : (keys : ℕ → Bool) (d : DescriptorValue) → Describes (all_items boot_descriptor_bytes) d → refusal d (boot_bytes keys) ≡ None
boot-taken keys d h = boot-long d (boot_bytes keys) h (omega (arith, (boot-layout keys).size))
