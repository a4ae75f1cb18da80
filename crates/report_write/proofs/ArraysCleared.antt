-- Places of an Array that a usage is taken out of, one after the other.
use Rattle.std.proofs.Common.{◌≡◌, ℕ, ◌+◌, ◌*◌, ◌<◌, ◌≤◌, Bool, true, false, List, length, arith, refl, sym, ◌∙◌, ap, inl, inr}
use Rattle.std.specs.Prelude.{ℤ}
use Rattle.std.proofs.lemmas.Bool.{cases_lt, le-ltb}
use Rattle.descriptor_parse.specs.declared.field.Field.{Field}
use Rattle.host_extract.specs.Found.{value_at}
use Rattle.host_extract.specs.Numbers.{report_bit, value_under}
use Rattle.field_values.specs.Places.{IsOutside}
use Rattle.field_values.specs.Held.{place_bit, has_bits}
use Rattle.field_values.specs.Values.{usage_read}
use Rattle.field_values.proofs.Reading.{others_stay, same_number, apart, later_place}
use Rattle.report_write.specs.representation.Fits.{FitsRoom}
use Rattle.report_write.specs.Controls.{is_usage}
use Rattle.report_write.specs.Puts.{IsPut, ArePut}
use Rattle.report_write.specs.Arrays.{names}
use Rattle.report_write.proofs.Firsts.{not_both}

-- the bits of each place are there
pub all_bits : (field : Field) (ranges : List (ℕ × ℕ)) (old now : List ℕ) (place : ℕ) → FitsRoom (8 * length old) field ranges → length now ≡ length old
    → place < field.count → has_bits field now place ≡ true
all_bits field ranges old now place fits long within =
    let next = later_place field.size place field.count within in
    let end : place_bit field place + field.size ≤ 8 * length now = omega (arith, fits.end) in
    rw (le-ltb (8 * length now) (place_bit field place + field.size) end) refl

-- those of the first places that pass a test hold a value, and the other bits are what they were
pub record ArePutTo (field : Field) (test : ℕ → Bool) (value : ℤ) (old : List ℕ) (count : ℕ) (now : List ℕ) : Type 0 where
  pub long : length now ≡ length old
  pub there : (place : ℕ) → place < count → test place ≡ true → value_at field now place ≡ value
  pub others : (bit : ℕ) → ((place : ℕ) → place < count → test place ≡ true → IsOutside (place_bit field place) field.size bit)
      → report_bit now bit ≡ report_bit old bit

-- the places from there on hold what they held
pub ahead : (field : Field) (test : ℕ → Bool) (value : ℤ) (old : List ℕ) (count : ℕ) (now : List ℕ) (place : ℕ) → ArePutTo field test value old count now
    → count ≤ place → value_at field now place ≡ value_at field old place
ahead field test value old count now place w l =
    ap (value_under field.min field.size) (same_number old now (place_bit field place) field.size (λ i m.
    w.others (place_bit field place + i) (λ p b t. apart field p place i (λ e. omega arith) m)))

pub names_same : (field : Field) (usages old now : List ℕ) (usage place : ℕ) → value_at field now place ≡ value_at field old place
    → names field usages old usage place ≡ names field usages now usage place
names_same field usages old now usage place e = ap (λ v. is_usage usage (usage_read field usages place v)) (sym e)

pub one_put : (field : Field) (test : ℕ → Bool) (value : ℤ) (old : List ℕ) (count : ℕ) (now then : List ℕ) → ArePutTo field test value old count now
    → test count ≡ true → IsPut field count value now then → ArePutTo field test value old (count + 1) then
one_put field test value old count now then w passed put = record {
  long = put.long ∙ w.long;
  there = λ place below passes. (elim (cases_lt place count) [
    | inl low ↦ others_stay field now then count place (λ e. omega arith) put.others ∙ w.there place low passes
    | inr high ↦ (let same : place ≡ count = omega arith in rw same put.there)
  ]);
  others = λ bit out. put.others bit (out count (omega arith) passed) ∙ w.others bit (λ p b t. out p (omega arith) t);
}

pub one_left : (field : Field) (test : ℕ → Bool) (value : ℤ) (old : List ℕ) (count : ℕ) (now : List ℕ) → ArePutTo field test value old count now
    → test count ≡ false → ArePutTo field test value old (count + 1) now
one_left field test value old count now w fails = record {
  long = w.long;
  there = λ place below passes. (elim (cases_lt place count) [
    | inl low ↦ w.there place low passes
    | inr high ↦ (let same : place ≡ count = omega arith in not_both (test count) (rw same at passes) fails)
  ]);
  others = λ bit out. w.others bit (λ p b t. out p (omega arith) t);
}

pub all_put : (field : Field) (test : ℕ → Bool) (value : ℤ) (old now : List ℕ) → ArePutTo field test value old field.count now → ArePut field test value old now
all_put field test value old now w = record { long = w.long; there = w.there; others = w.others }
