-- Places that are marked, and what set_place leaves.
use Rattle.std.proofs.Common.{◌≡◌, ℕ, ◌+◌, ◌*◌, ◌<◌, ◌≤◌, true, List, length, arith, refl, sym, ◌∙◌, inl, inr}
use Rattle.std.specs.Prelude.{ℤ}
use Rattle.std.proofs.lemmas.Bool.{cases_lt, not-true, ltb-false}
use Rattle.descriptor_parse.specs.declared.field.Field.{Field}
use Rattle.host_extract.specs.Numbers.{report_bit, number_at, value_under}
use Rattle.host_extract.proofs.NumberLemmas.{number-one}
use Rattle.field_values.specs.Places.{IsOutside}
use Rattle.field_values.specs.Held.{place_bit, has_bits}
use Rattle.report_write.specs.Puts.{IsPut, IsMarked}

pub marked : (field : Field) (place from : ℕ) (old new : List ℕ) → from ≡ place_bit field place → 0 < field.size
    → has_bits field old place ≡ true → length new ≡ length old → (from + 1 ≤ 8 * length old → number_at new from 1 ≡ 1)
    → ((bit : ℕ) → IsOutside from 1 bit → report_bit new bit ≡ report_bit old bit) → IsMarked field place old new
marked field place from old new f some bits l t o =
    let within : place_bit field place + field.size ≤ 8 * length old = ltb-false _ _ (not-true _ bits) in
    record {
      long = l;
      there = rw (sym f) (sym (number-one new from 1 refl) ∙ t (omega arith));
      others = λ bit other. elim (cases_lt bit from) [
        | inl low ↦ o bit (inl low)
        | inr high ↦ o bit (inr (omega arith))
      ];
    }

pub placed : (field : Field) (place from : ℕ) (value : ℤ) (old new : List ℕ) → from ≡ place_bit field place → has_bits field old place ≡ true
    → length new ≡ length old → (from + field.size ≤ 8 * length old → value_under field.min field.size (number_at new from field.size) ≡ value)
    → ((bit : ℕ) → IsOutside from field.size bit → report_bit new bit ≡ report_bit old bit) → IsPut field place value old new
placed field place from value old new f bits l t o =
    let within : place_bit field place + field.size ≤ 8 * length old = ltb-false _ _ (not-true _ bits) in
    record { long = l; there = rw f at t (omega arith); others = rw f at o }
