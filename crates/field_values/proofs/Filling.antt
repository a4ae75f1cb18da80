-- Places of a field that are written one after the other.
use Rattle.std.proofs.Common.{◌≡◌, ◌≢◌, ℕ, ◌+◌, ◌*◌, ◌<◌, true, List, length, arith, refl, ◌∙◌, inl, inr}
use Rattle.std.specs.Prelude.{ℤ}
use Rattle.std.proofs.lemmas.Bool.{cases_lt}
use Rattle.descriptor_parse.specs.declared.field.Field.{Field}
use Rattle.host_extract.specs.Found.{value_at}
use Rattle.host_extract.specs.Numbers.{report_bit}
use Rattle.field_values.specs.Places.{IsOutside}
use Rattle.field_values.specs.Held.{AreBitsOf, place_bit, has_bits}
use Rattle.field_values.proofs.Reading.{others_stay, next_place, apart}

-- the first places hold a value, and the other bits are what they were
pub record IsFilled (field : Field) (value : ℤ) (old : List ℕ) (count : ℕ) (now : List ℕ) : Type 0 where
  pub long : length now ≡ length old
  pub there : (place : ℕ) → place < count → has_bits field old place ≡ true → value_at field now place ≡ value
  pub inside : (place : ℕ) → place < count → AreBitsOf field.min field.size value now (place_bit field place)
  pub others : (bit : ℕ) → IsOutside field.bit (field.size * count) bit → report_bit now bit ≡ report_bit old bit

-- a place that was written keeps its bits while another one is written
bits_stay : (field : Field) (value : ℤ) (old now : List ℕ) (place other : ℕ) → place ≢ other → length now ≡ length old
    → ((bit : ℕ) → IsOutside (place_bit field place) field.size bit → report_bit now bit ≡ report_bit old bit)
    → AreBitsOf field.min field.size value old (place_bit field other) → AreBitsOf field.min field.size value now (place_bit field other)
bits_stay field value old now place other n l o b = record {
  number = b.number;
  small = b.small;
  is_value = b.is_value;
  inside = λ i below within. o (place_bit field other + i) (apart field place other i n below) ∙ b.inside i below (rw l at within);
}

pub none_filled : (field : Field) (value : ℤ) (old : List ℕ) → IsFilled field value old 0 old
none_filled field value old = record { long = refl; there = λ p l. absurd (omega arith); inside = λ p l. absurd (omega arith); others = λ bit o. refl }

pub one_filled : (field : Field) (value : ℤ) (old : List ℕ) (count : ℕ) (now then : List ℕ) → IsFilled field value old count now
    → length then ≡ length now → (has_bits field now count ≡ true → value_at field then count ≡ value)
    → AreBitsOf field.min field.size value then (place_bit field count)
    → ((bit : ℕ) → IsOutside (place_bit field count) field.size bit → report_bit then bit ≡ report_bit now bit)
    → IsFilled field value old (count + 1) then
one_filled field value old count now then w l t inner o = record {
  long = l ∙ w.long;
  there = λ place below bits. (elim (cases_lt place count) [
    | inl low ↦ others_stay field now then count place (λ e. omega arith) o ∙ w.there place low bits
    | inr high ↦ (let same : place ≡ count = omega arith in rw same (t (rw (w.long, ← same) bits)))
  ]);
  inside = λ place below. (elim (cases_lt place count) [
    | inl low ↦ bits_stay field value now then count place (λ e. omega arith) l o (w.inside place low)
    | inr high ↦ (let same : place ≡ count = omega arith in rw same inner)
  ]);
  others = λ bit out. (
      let more = next_place field.size count in
      elim out [
        | inl low ↦ o bit (inl (omega arith)) ∙ w.others bit (inl low)
        | inr high ↦ o bit (inr (omega arith)) ∙ w.others bit (inr (omega arith))
      ]);
}
