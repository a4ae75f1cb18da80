use Rattle.std.proofs.Common.{◌≡◌, ◌≢◌, ℕ, zero, suc, ◌+◌, ◌-◌, ◌*◌, ◌/◌, ◌%◌, ◌^◌, ◌<◌, ◌≤◌, true, false, List, [], ◌∷◌, get_or, arith, refl, sym, ◌∙◌, ap, inl, inr, Some, pos}
use Rattle.std.specs.Prelude.{◌==◌, nat_lt}
use Rattle.std.specs.Int.{bit_at}
use Rattle.std.proofs.lemmas.Bool.{cases_eq, cases_lt}
use Rattle.std.proofs.lemmas.Bool.Decides.{nat_tests}
use Rattle.std.proofs.lemmas.Nat.Bits.{bit_at_cat_low, bit_at_cat_high, same_from_bits_below}
use Rattle.descriptor_parse.specs.declared.field.Kind.TheVariants.{Input}
use Rattle.descriptor_parse.specs.declared.field.Field.{Field}
use Rattle.descriptor_parse.specs.Descriptor.{usage_list}
use Rattle.descriptor_parse.proofs.UsageLemmas.{within_first}
use Rattle.host_extract.proofs.NumberLemmas.{number-lt, number-bit}
use Rattle.host_extract.specs.declared.reading.Found.{Found}
use Rattle.host_extract.specs.Numbers.{report_bit, number_at}
use Rattle.host_extract.specs.Found.{named, in_array, reading_at, readings_of}
use Rattle.host_extract.specs.Pressed.{IsRead}
use Rattle.host_extract.proofs.Readings.{read-left, read-right, read-cases, one-reading}
use Rattle.world.proofs.Fields.{same_pos}

-- ---- the number that some bits make

-- a byte
bit-of-byte : (bytes : List ℕ) (k i : ℕ) → i < 8 → report_bit bytes (8 * k + i) ≡ bit_at (get_or bytes k 0) i
bit-of-byte bytes k i l =
    let a : (8 * k + i) / 8 ≡ k = omega arith in
    let b : (8 * k + i) % 8 ≡ i = omega arith in
    rw (a, b) refl

pub number-byte : (bytes : List ℕ) (k : ℕ) → get_or bytes k 0 < 256 → number_at bytes (8 * k) 8 ≡ get_or bytes k 0
number-byte bytes k l = same_from_bits_below 8 (number_at bytes (8 * k) 8) (get_or bytes k 0) (number-lt bytes 8 (8 * k)) l
    (λ i m. number-bit bytes 8 (8 * k) i m ∙ bit-of-byte bytes k i m)

-- two bytes
word-bit : (bytes : List ℕ) (k i : ℕ) → get_or bytes k 0 < 256 → i < 16
    → report_bit bytes (8 * k + i) ≡ bit_at (get_or bytes (k + 1) 0 * 2 ^ 8 + get_or bytes k 0) i
word-bit bytes k i l m = elim (cases_lt i 8) [
  | inl low ↦ bit-of-byte bytes k i low ∙ sym (bit_at_cat_low (get_or bytes (k + 1) 0) 8 (get_or bytes k 0) i low)
  | inr high ↦ (let e : 8 * k + i ≡ 8 * (k + 1) + (i - 8) = omega arith in
      ap (report_bit bytes) e ∙ bit-of-byte bytes (k + 1) (i - 8) (omega arith) ∙ sym (bit_at_cat_high (get_or bytes (k + 1) 0) 8 (get_or bytes k 0) i l high))
]

pub number-word : (bytes : List ℕ) (k : ℕ) → get_or bytes k 0 < 256 → get_or bytes (k + 1) 0 < 256
    → number_at bytes (8 * k) 16 ≡ get_or bytes (k + 1) 0 * 2 ^ 8 + get_or bytes k 0
number-word bytes k l h = same_from_bits_below 16 (number_at bytes (8 * k) 16) (get_or bytes (k + 1) 0 * 2 ^ 8 + get_or bytes k 0) (number-lt bytes 16 (8 * k)) (omega arith)
    (λ i m. number-bit bytes 16 (8 * k) i m ∙ word-bit bytes k i l m)

-- ---- arrays

abbrev pub array_field : ℕ → ℕ → ℕ → ℕ → ℕ → Field
array_field id bit size count max = record { kind = Input; id = id; bit = bit; size = size; count = count; min = pos 0; max = pos max; array = true }

-- its usages, one for each value up to the greatest
pub record HasValues (first max : ℕ) : Type 0 where
  pub page : first % 2 ^ 16 ≡ 0
  pub small : max < 2 ^ 16

-- the values of its places
abbrev pub Values : List ℕ → ℕ → ℕ → ℕ → ℕ → (ℕ → ℕ) → Type 0
Values bytes bit size count max value = (p : ℕ) → p < count → (number_at bytes (bit + size * p) size ≡ value p) × (value p ≤ max)

abbrev one : ℕ → Found
one usage = record { usage = usage; value = pos 1 }

in-array : (id bit size count max first v : ℕ) → v ≤ max
    → in_array (array_field id bit size count max) (usage_list ((first, first + max) ∷ [])) (pos v) ≡ named (Some (first + v)) (pos 1)
in-array id bit size count max first v l =
    let e : nat_lt max v ≡ false = grind (arith, nat_tests) in
    let f : nat_lt v 0 ≡ false = grind (arith, nat_tests) in
    let z : v - 0 ≡ v = omega arith in
    rw (f, e, z) (ap (λ usage. named usage (pos 1)) (within_first first (first + max) [] v (omega arith) (omega arith)))

pub reading-array : (bytes : List ℕ) (id bit size count max first : ℕ) (value : ℕ → ℕ) (p : ℕ) → Values bytes bit size count max value → p < count
    → reading_at (array_field id bit size count max) (usage_list ((first, first + max) ∷ [])) bytes p ≡ named (Some (first + value p)) (pos 1)
reading-array bytes id bit size count max first value p h l =
    ap (λ n. in_array (array_field id bit size count max) (usage_list ((first, first + max) ∷ [])) (pos n)) (h p l).0
    ∙ in-array id bit size count max first (value p) (h p l).1

named-none : (first v : ℕ) → first % 2 ^ 16 ≡ 0 → v ≡ 0 → named (Some (first + v)) (pos 1) ≡ []
named-none first v e z = let n : ((first + v) % 2 ^ 16 == 0) ≡ true = grind (arith, nat_tests) in rw n refl

named-some : (first v : ℕ) → first % 2 ^ 16 ≡ 0 → v < 2 ^ 16 → v ≢ 0 → named (Some (first + v)) (pos 1) ≡ one (first + v) ∷ []
named-some first v e l n = let m : ((first + v) % 2 ^ 16 == 0) ≡ false = grind (arith, nat_tests) in rw m refl

abbrev Named : (ℕ → ℕ) → ℕ → ℕ → ℕ → Type 0
Named value first n u = (p : ℕ) × (p < n) × (value p ≢ 0) × (first + value p ≡ u)

no-reading : (u : ℕ) → IsRead [] u → ⊥
no-reading u (r, (k, l, e), s, v) = omega arith

array-new : (first max n u v : ℕ) → HasValues first max → v ≤ max → IsRead (named (Some (first + v)) (pos 1)) u → (v ≢ 0) × (first + v ≡ u)
array-new first max n u v h l read = elim (cases_eq v 0) [
  | inl z ↦ absurd (no-reading u (rw (named-none first v h.page z) at read))
  | inr nz ↦ (let small = h.small in
      let (r, c, e, w) = rw (named-some first v h.page (omega arith) nz) at read in (nz, ap (λ x. x.usage) (one-reading (one (first + v)) r c) ∙ e))
]

pub array-sound : (bytes : List ℕ) (id bit size count max first : ℕ) (value : ℕ → ℕ) → Values bytes bit size count max value → HasValues first max → (n u : ℕ) → n ≤ count
    → IsRead (readings_of (array_field id bit size count max) (usage_list ((first, first + max) ∷ [])) bytes n) u → Named value first n u
unfolding readings_of
array-sound bytes id bit size count max first value vs h zero u l read = absurd (no-reading u read)
array-sound bytes id bit size count max first value vs h (suc n) u l read = elim (read-cases _ _ u read) [
  | inl old ↦ (let (p, m, z, e) = array-sound bytes id bit size count max first value vs h n u (omega arith) old in (p, omega arith, z, e))
  | inr new ↦ (let (z, e) = array-new first max n u (value n) h (vs n l).1 (rw (reading-array bytes id bit size count max first value n vs l) at new) in (n, omega arith, z, e))
]

one-named : (first max v u : ℕ) → HasValues first max → v ≤ max → v ≢ 0 → first + v ≡ u → IsRead (named (Some (first + v)) (pos 1)) u
one-named first max v u h l nz e =
    let small = h.small in
    rw (named-some first v h.page (omega arith) nz) (one (first + v), (0, omega arith, refl), e, λ z. let w = same_pos 1 0 z in omega arith)

pub array-complete : (bytes : List ℕ) (id bit size count max first : ℕ) (value : ℕ → ℕ) → Values bytes bit size count max value → HasValues first max → (n u : ℕ) → n ≤ count
    → Named value first n u → IsRead (readings_of (array_field id bit size count max) (usage_list ((first, first + max) ∷ [])) bytes n) u
unfolding readings_of
array-complete bytes id bit size count max first value vs h zero u l (p, m, z, e) = absurd (omega arith)
array-complete bytes id bit size count max first value vs h (suc n) u l (p, m, z, e) =
    let f = array_field id bit size count max in
    let us = usage_list ((first, first + max) ∷ []) in
    elim (cases_eq p n) [
      | inl same ↦ (let here : IsRead (reading_at f us bytes n) u =
          rw (reading-array bytes id bit size count max first value n vs l) (one-named first max (value n) u h (vs n l).1 (rw same at z) (rw same at e)) in
          read-right (readings_of f us bytes n) (reading_at f us bytes n) u here)
      | inr other ↦ read-left (readings_of f us bytes n) (reading_at f us bytes n) u
          (array-complete bytes id bit size count max first value vs h n u (omega arith) (p, omega arith, z, e))
    ]
