use Rattle.std.proofs.Common.{◌≡◌, ◌≢◌, ℕ, zero, suc, ◌+◌, ◌*◌, ◌%◌, ◌^◌, ◌<◌, ◌≤◌, false, List, [], ◌∷◌, arith, refl, sym, ◌∙◌, ap, inl, inr, Some, pos}
use Rattle.std.specs.Prelude.{ℤ, negsuc, ◌==◌}
use Rattle.std.proofs.lemmas.Bool.{cases_eq}
use Rattle.std.proofs.lemmas.Bool.Decides.{nat_tests}
use Rattle.descriptor_parse.specs.declared.field.Kind.TheVariants.{Input}
use Rattle.descriptor_parse.specs.declared.field.Field.{Field}
use Rattle.descriptor_parse.specs.Descriptor.{usage_list, usage_of_place}
use Rattle.descriptor_parse.proofs.UsageLemmas.{within_first, place_some}
use Rattle.host_extract.proofs.Readings.{read-left, read-right, read-cases, one-reading}
use Rattle.host_extract.specs.declared.reading.Found.{Found}
use Rattle.host_extract.specs.Numbers.{report_bit, number_at}
use Rattle.host_extract.specs.Found.{value_at, named, reading_at, readings_of}
use Rattle.host_extract.specs.Pressed.{IsRead}

-- ---- fields of bits

abbrev magnitude : ℤ → ℕ
magnitude (pos n) = n
magnitude (negsuc n) = n

pub same_pos : (m n : ℕ) → pos m ≡ pos n → m ≡ n
same_pos m n e = ap magnitude e

abbrev pub bit_field : ℕ → ℕ → ℕ → Field
bit_field id bit count = record { kind = Input; id = id; bit = bit; size = 1; count = count; min = pos 0; max = pos 1; array = false }

-- its usages, one for each bit
pub record HasBits (count first last : ℕ) : Type 0 where
  pub size : first + count ≡ last + 1
  pub some : first ≤ last
  pub named : (i : ℕ) → i < count → (first + i) % 2 ^ 16 ≢ 0

abbrev one : ℕ → ℕ → Found
one usage bit = record { usage = usage; value = pos bit }

one-read : (usage bit : ℕ) → bit ≢ 0 → IsRead (one usage bit ∷ []) usage
one-read usage bit n = (one usage bit, (0, omega arith, refl), refl, λ z. n (same_pos bit 0 z))

value-bit : (bytes : List ℕ) (id bit count place : ℕ) → value_at (bit_field id bit count) bytes place ≡ pos (report_bit bytes (bit + place))
unfolding number_at
value-bit bytes id bit count place =
    let e : bit + 1 * place ≡ bit + place = omega arith in
    let z : report_bit bytes (bit + place) + 0 ≡ report_bit bytes (bit + place) = omega arith in
    rw e (ap pos z)

usage-bit : (id bit count first last place : ℕ) → HasBits count first last → place < count
    → usage_of_place (bit_field id bit count) (usage_list ((first, last) ∷ [])) place ≡ Some (first + place)
usage-bit id bit count first last place h l =
    let size = h.size in
    sym (place_some (bit_field id bit count) (usage_list ((first, last) ∷ [])) place (first + place) (λ e. l) (within_first first last [] place h.some (omega arith)))

named-one : (usage bit : ℕ) → usage % 2 ^ 16 ≢ 0 → named (Some usage) (pos bit) ≡ one usage bit ∷ []
named-one usage bit n = let e : (usage % 2 ^ 16 == 0) ≡ false = grind (arith, nat_tests) in rw e refl

pub reading-bit : (bytes : List ℕ) (id bit count first last place : ℕ) → HasBits count first last → place < count
    → reading_at (bit_field id bit count) (usage_list ((first, last) ∷ [])) bytes place ≡ one (first + place) (report_bit bytes (bit + place)) ∷ []
reading-bit bytes id bit count first last place h l =
    ap (λ usage. named usage (value_at (bit_field id bit count) bytes place)) (usage-bit id bit count first last place h l)
    ∙ ap (named (Some (first + place))) (value-bit bytes id bit count place)
    ∙ named-one (first + place) (report_bit bytes (bit + place)) (h.named place l)

pub bits-sound : (bytes : List ℕ) (id bit count first last : ℕ) (h : HasBits count first last) (n u : ℕ) → n ≤ count
    → IsRead (readings_of (bit_field id bit count) (usage_list ((first, last) ∷ [])) bytes n) u
    → (i : ℕ) × (i < n) × (first + i ≡ u) × (report_bit bytes (bit + i) ≢ 0)
unfolding readings_of
bits-sound bytes id bit count first last h zero u l (r, (k, m, e), s, v) = absurd (omega arith)
bits-sound bytes id bit count first last h (suc n) u l read = elim (read-cases _ _ u read) [
  | inl old ↦ (let (i, m, e, v) = bits-sound bytes id bit count first last h n u (omega arith) old in (i, omega arith, e, v))
  | inr new ↦ (let (r, c, e, v) = new in
      let same : one (first + n) (report_bit bytes (bit + n)) ≡ r = one-reading _ r (rw (reading-bit bytes id bit count first last n h l) at c) in
      (n, omega arith, ap (λ x. x.usage) same ∙ e, λ z. v (sym (ap (λ x. x.value) same) ∙ ap pos z)))
]

pub bits-complete : (bytes : List ℕ) (id bit count first last : ℕ) (h : HasBits count first last) (n i : ℕ) → n ≤ count → i < n → report_bit bytes (bit + i) ≢ 0
    → IsRead (readings_of (bit_field id bit count) (usage_list ((first, last) ∷ [])) bytes n) (first + i)
unfolding readings_of
bits-complete bytes id bit count first last h zero i l m v = absurd (omega arith)
bits-complete bytes id bit count first last h (suc n) i l m v = elim (cases_eq i n) [
  | inl e ↦ (let us = usage_list ((first, last) ∷ []) in
      let here : IsRead (reading_at (bit_field id bit count) us bytes n) (first + i) =
      rw (reading-bit bytes id bit count first last n h l, e) (one-read (first + n) (report_bit bytes (bit + n)) (rw e at v)) in
      read-right (readings_of (bit_field id bit count) us bytes n) (reading_at (bit_field id bit count) us bytes n) (first + i) here)
  | inr d ↦ read-left _ _ (first + i) (bits-complete bytes id bit count first last h n i (omega arith) (omega arith) v)
]
