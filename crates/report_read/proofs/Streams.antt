-- The bytes of a field, bit by bit.
use Rattle.std.proofs.Common.{◌≡◌, ℕ, ◌+◌, ◌-◌, ◌*◌, ◌/◌, ◌%◌, ◌^◌, ◌<◌, ◌≤◌, List, [], ◌∷◌, ◌++◌, length, get_or, min, arith, refl, sym, ◌∙◌, ap, inl, inr, length-append}
use Rattle.std.specs.Int.{bit_at}
use Rattle.std.proofs.lemmas.Bool.{cases_lt, lt-ltb, le-ltb}
use Rattle.std.proofs.lemmas.List.{get_or_append_left, get_or_push}
use Rattle.std.proofs.Math.Pow.{pow_mono}
use Rattle.std.proofs.lemmas.Nat.Bits.{bit_at-zero, bit_at_cat_high}
use Rattle.descriptor_parse.specs.declared.field.Field.{Field}
use Rattle.host_extract.specs.Numbers.{report_bit, number_at}
use Rattle.host_extract.proofs.NumberLemmas.{number-lt, number-bit}
use Rattle.report_read.specs.Buffered.{field_bit}

-- the first bytes of a field
pub record AreFirst (field : Field) (report : List ℕ) (k : ℕ) (bytes : List ℕ) : Type 0 where
  pub long : length bytes ≡ k
  pub bits : (n : ℕ) → n < 8 * k → report_bit bytes n ≡ field_bit field report n

bit_past : (x n i : ℕ) → x < 2 ^ n → n ≤ i → bit_at x i ≡ 0
bit_past x n i l o =
    let e : 0 * 2 ^ n + x ≡ x = omega arith in
    sym (ap (λ y. bit_at y i) e) ∙ bit_at_cat_high 0 n x i l o ∙ bit_at-zero (i - n)

inside : (field : Field) (report : List ℕ) (n : ℕ) → n < field.size * field.count → report_bit report (field.bit + n) ≡ field_bit field report n
inside field report n l = rw (lt-ltb n (field.size * field.count) l) refl

outside : (field : Field) (report : List ℕ) (n : ℕ) → field.size * field.count ≤ n → 0 ≡ field_bit field report n
outside field report n o = rw (le-ltb n (field.size * field.count) o) refl

-- a byte of them
byte_bits : (field : Field) (report : List ℕ) (first i : ℕ) → i < 8
    → bit_at (number_at report (field.bit + first) (min 8 (field.size * field.count - first))) i ≡ field_bit field report (first + i)
byte_bits field report first i l =
    let m = min 8 (field.size * field.count - first) in
    elim (cases_lt i m) [
      | inl low ↦ (let e : field.bit + first + i ≡ field.bit + (first + i) = omega arith in
          number-bit report m (field.bit + first) i low ∙ ap (report_bit report) e ∙ inside field report (first + i) (omega arith))
      | inr high ↦ (bit_past (number_at report (field.bit + first) m) m i (number-lt report m (field.bit + first)) high ∙ outside field report (first + i) (omega arith))
    ]

pub next_byte : (field : Field) (report bytes items : List ℕ) (k byte : ℕ) → AreFirst field report k bytes → items ≡ bytes ++ byte ∷ []
    → byte ≡ number_at report (field.bit + 8 * k) (min 8 (field.size * field.count - 8 * k)) → AreFirst field report (k + 1) items
next_byte field report bytes items k byte before e b =
    let long = length-append bytes (byte ∷ []) in
    rw e (record {
      long = omega (arith, long, before.long);
      bits = λ n l. elim (cases_lt n (8 * k)) [
        | inl low ↦ (let left : get_or (bytes ++ byte ∷ []) (n / 8) 0 ≡ get_or bytes (n / 8) 0 = get_or_append_left bytes (byte ∷ []) 0 (n / 8) (omega (arith, before.long)) in
            rw left (before.bits n low))
        | inr high ↦ (let here : n / 8 ≡ length bytes = omega (arith, before.long) in
            let last : get_or (bytes ++ byte ∷ []) (n / 8) 0 ≡ byte = get_or_push bytes byte 0 (n / 8) (sym here) in
            let sum : 8 * k + n % 8 ≡ n = omega arith in
            rw (last, b) (byte_bits field report (8 * k) (n % 8) (omega arith) ∙ ap (field_bit field report) sum))
      ];
    })

pub eight_bits : (bytes : List ℕ) (bit size number : ℕ) → size ≤ 8 → number ≡ number_at bytes bit size → number < 2 ^ 8
eight_bits bytes bit size number few e = omega (arith, number-lt bytes size bit, pow_mono few, e)
