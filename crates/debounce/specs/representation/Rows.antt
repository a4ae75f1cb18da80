-- Representation: what is kept of two rows, and of each of their keys: a bit of each word.
use Rattle.std.specs.Prelude.{◌≡◌, ℕ, ◌/◌, ◌%◌, ◌<◌, ◌==◌, not, Bool, List, [], ◌∷◌, slice_index}
use Rattle.std.specs.Int.{bit_at}
use Rattle.debounce.specs.declared.row.Row.{Row}
use Rattle.debounce.specs.Samples.{run_of, debounced}

-- the bits of a key
pub record KeyBits : Type 0 where
  pub first : ℕ
  pub second : ℕ
  pub third : ℕ
  pub down : ℕ

-- the six rows of three words of two rows each, the first row in the low half
abbrev pub parts : ℕ → ℕ → ℕ → List ℕ
parts first second third =
    first % 65536 ∷ first / 65536 ∷ second % 65536 ∷ second / 65536 ∷ third % 65536 ∷ third / 65536 ∷ []

-- the six rows of a list of three words
abbrev pub rows_of : List ℕ → List ℕ
rows_of words = parts (slice_index words 0) (slice_index words 1) (slice_index words 2)

-- those of the key in this column
abbrev pub bits_of : Row → ℕ → KeyBits
bits_of row column = record {
  first = bit_at row.first column;
  second = bit_at row.second column;
  third = bit_at row.third column;
  down = bit_at row.down column;
}

-- how many of the latest samples, newest first, are unlike the debounced value
abbrev pub unlike : List Bool → ℕ
unlike past = run_of (not (debounced past)) past

-- the bits refine the samples of the key, newest first: the debounced value, and how many of the latest are unlike
-- it: the first bit for 1 to 3, the second for 2 to 4, the third for 3 and 4
pub record KeyRefines (past : List Bool) (key : KeyBits) : Type 0 where
  pub first : key.first ≡ bit_at 0b01110 (unlike past)
  pub second : key.second ≡ bit_at 0b11100 (unlike past)
  pub third : key.third ≡ bit_at 0b11000 (unlike past)
  pub down : (key.down == 1) ≡ debounced past

-- two rows after one more sample of each of their keys
pub record Sampled (before : Row) (sample : ℕ) (after : Row) : Type 0 where
  pub each : (column : ℕ) → column < 32 → (past : List Bool) → KeyRefines past (bits_of before column)
      → KeyRefines ((bit_at sample column == 1) ∷ past) (bits_of after column)
