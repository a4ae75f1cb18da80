-- Representation: what is kept of all keys.
use Rattle.std.specs.Prelude.{◌≡◌, ℕ, List, length, slice_index}
use Rattle.debounce.specs.declared.row.Row.{Row}

-- what is kept, a word of each for a pair of rows; callers know it only by the scans that it refines
pub record Kept : Type 0 where
  pub first : List ℕ
  pub second : List ℕ
  pub third : List ℕ
  pub down : List ℕ

-- each has three words
pub record HasThreePairs (kept : Kept) : Type 0 where
  pub first : length kept.first ≡ 3
  pub second : length kept.second ≡ 3
  pub third : length kept.third ≡ 3
  pub down : length kept.down ≡ 3

-- what is kept of a pair of rows
abbrev pub row_of : Kept → ℕ → Row
row_of kept pair = record {
  first = slice_index kept.first pair;
  second = slice_index kept.second pair;
  third = slice_index kept.third pair;
  down = slice_index kept.down pair;
}
