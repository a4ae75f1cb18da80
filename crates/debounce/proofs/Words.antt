-- The bits of two rows' words after one sample.
use Rattle.std.proofs.Common.{◌≡◌, ℕ, ◌+◌, ◌-◌, ◌<◌, ◌%◌, ◌^◌, min, max, refl, ◌∙◌, ap, bit_and, bit_or, bit_xor, w32}
use Rattle.std.specs.Int.{bit_at}
use Rattle.std.proofs.lemmas.Nat.{xor_of_32}
use Rattle.std.proofs.lemmas.Nat.Bits.{bit_at_and, bit_at_or, bit_at_xor, bit_at_not, bit_at-lt}
use Rattle.debounce.specs.declared.row.Row.{Row}
use Rattle.debounce.specs.declared.row.Count.{Count}
use Rattle.debounce.specs.representation.Rows.{Sampled, bits_of}
use Rattle.debounce.specs.representation.Counted.{Recounted}
use Rattle.debounce.proofs.Counts.{ones_after, twos_after, fours_after, counted-after, after_sample}

-- the words of a count after a sample, with what changed
abbrev ones_word : Count → ℕ → ℕ
ones_word row changed = bit_or (bit_or (4294967295 - row.ones) row.fours) changed

abbrev twos_word : Count → ℕ → ℕ
twos_word row changed = bit_and (bit_and (bit_xor row.twos row.ones) (4294967295 - row.fours)) (4294967295 - changed)

abbrev fours_word : Count → ℕ → ℕ
fours_word row changed = bit_and (bit_or row.fours (bit_and row.twos row.ones)) (4294967295 - changed)

and_bits : (a b i x y : ℕ) → bit_at a i ≡ x → bit_at b i ≡ y → bit_at (bit_and a b) i ≡ min x y
and_bits a b i x y e f = rw (bit_at_and a b i, e, f) refl

or_bits : (a b i x y : ℕ) → bit_at a i ≡ x → bit_at b i ≡ y → bit_at (bit_or a b) i ≡ max x y
or_bits a b i x y e f = rw (bit_at_or a b i, e, f) refl

xor_bits : (a b i : ℕ) → bit_at (bit_xor a b) i ≡ (bit_at a i + bit_at b i) % 2
xor_bits a b i = bit_at_xor a b i

not_bits : (a i x : ℕ) → a < 2 ^ 32 → i < 32 → bit_at a i ≡ x → bit_at (4294967295 - a) i ≡ 1 - x
not_bits a i x l m e = bit_at_not w32 a i l m ∙ ap (λ (n : ℕ). 1 - n) e

ones_bit : (row : Count) (changed i : ℕ) → row.ones < 2 ^ 32 → i < 32 → bit_at (ones_word row changed) i ≡ ones_after (bit_at row.ones i) (bit_at row.fours i) (bit_at changed i)
ones_bit row changed i l m = or_bits _ changed i _ _ (or_bits (4294967295 - row.ones) row.fours i _ _ (not_bits row.ones i _ l m refl) refl) refl

twos_bit : (row : Count) (changed i : ℕ) → row.fours < 2 ^ 32 → changed < 2 ^ 32 → i < 32
    → bit_at (twos_word row changed) i ≡ twos_after (bit_at row.ones i) (bit_at row.twos i) (bit_at row.fours i) (bit_at changed i)
twos_bit row changed i l c m =
    and_bits (bit_and (bit_xor row.twos row.ones) (4294967295 - row.fours)) (4294967295 - changed) i _ _
    (and_bits (bit_xor row.twos row.ones) (4294967295 - row.fours) i _ _ (xor_bits row.twos row.ones i) (not_bits row.fours i _ l m refl))
    (not_bits changed i _ c m refl)

fours_bit : (row : Count) (changed i : ℕ) → changed < 2 ^ 32 → i < 32
    → bit_at (fours_word row changed) i ≡ fours_after (bit_at row.ones i) (bit_at row.twos i) (bit_at row.fours i) (bit_at changed i)
fours_bit row changed i c m =
    and_bits (bit_or row.fours (bit_and row.twos row.ones)) (4294967295 - changed) i _ _
    (or_bits row.fours (bit_and row.twos row.ones) i _ _ refl (and_bits row.twos row.ones i _ _ refl refl))
    (not_bits changed i _ c m refl)

abbrev count_after : Count → ℕ → Count
count_after row changed = record { ones = ones_word row changed; twos = twos_word row changed; fours = fours_word row changed }

pub recounted_row : (row : Count) (latest sample : ℕ) → row.ones < 2 ^ 32 → row.fours < 2 ^ 32 → latest < 2 ^ 32 → sample < 2 ^ 32
    → Recounted row latest sample (count_after row (bit_xor sample latest))
recounted_row row latest sample o f l s =
    let c : bit_xor sample latest < 2 ^ 32 = xor_of_32 sample latest s l in
    record {
      each = λ column m past h.
          let x : bit_at (bit_xor sample latest) column ≡ (bit_at sample column + bit_at latest column) % 2 = bit_at_xor sample latest column in
          let p : bit_at (ones_word row (bit_xor sample latest)) column ≡ ones_after (bit_at row.ones column) (bit_at row.fours column) ((bit_at sample column + bit_at latest column) % 2) = rw x at (ones_bit row (bit_xor sample latest) column o m) in
          let q : bit_at (twos_word row (bit_xor sample latest)) column ≡ twos_after (bit_at row.ones column) (bit_at row.twos column) (bit_at row.fours column) ((bit_at sample column + bit_at latest column) % 2) = rw x at (twos_bit row (bit_xor sample latest) column f c m) in
          let r : bit_at (fours_word row (bit_xor sample latest)) column ≡ fours_after (bit_at row.ones column) (bit_at row.twos column) (bit_at row.fours column) ((bit_at sample column + bit_at latest column) % 2) = rw x at (fours_bit row (bit_xor sample latest) column c m) in
          rw (p, q, r) (counted-after past (bit_at sample column) (bit_at latest column) _ _ _ (bit_at-lt sample column) (bit_at-lt latest column) h);
    }

-- the words of a row after a sample, with those that are unlike their keys' values
abbrev row_after : Row → ℕ → Row
row_after row unlike = record {
  first = bit_and unlike (4294967295 - row.third);
  second = bit_and unlike row.first;
  third = bit_and (bit_and unlike row.first) row.second;
  down = bit_xor row.down (bit_and (bit_and unlike row.second) (4294967295 - row.first));
}

pub sampled_row : (row : Row) (sample : ℕ) → row.first < 2 ^ 32 → row.third < 2 ^ 32 → Sampled row sample (row_after row (bit_xor sample row.down))
sampled_row row sample f t = record {
  each = λ column m past h.
      let u = bit_xor sample row.down in
      let x : bit_at u column ≡ (bit_at sample column + bit_at row.down column) % 2 = bit_at_xor sample row.down column in
      let second = and_bits u row.first column _ _ x refl in
      let fifth = and_bits (bit_and u row.second) (4294967295 - row.first) column _ _ (and_bits u row.second column _ _ x refl) (not_bits row.first column _ f m refl) in
      rw (
        and_bits u (4294967295 - row.third) column _ _ x (not_bits row.third column _ t m refl),
        second,
        and_bits (bit_and u row.first) row.second column _ _ second refl,
        bit_at_xor row.down (bit_and (bit_and u row.second) (4294967295 - row.first)) column,
        fifth,
      )
      (after_sample past (bits_of row column) (bit_at sample column) (bit_at-lt sample column) (bit_at-lt row.down column) h);
}
