-- Representation: what a debouncer keeps, and how it counts the latest equal samples.
use Rattle.std.specs.Prelude.{◌≡◌, ℕ, ◌<◌, ◌/◌, ◌%◌, ◌==◌, not, Bool, List, [], ◌∷◌, slice_index, slice_index_or}
use Rattle.std.specs.Int.{bit_at}
use Rattle.debounce.specs.declared.Scan.{Scan}
use Rattle.debounce.specs.declared.row.Count.{Count}
use Rattle.debounce.specs.Scans.{has}
use Rattle.debounce.specs.Samples.{run_of, samples, equal_latest}
use Rattle.debounce.specs.representation.Kept.{Kept}
use Rattle.debounce.specs.representation.Relation as matrix

-- what is kept; callers know it only by the scans that it refines
pub record Counted : Type 0 where
  pub matrix : Kept
  pub latest : Scan
  pub planes : List (List ℕ)

-- the bit of a key in a plane
abbrev pub plane_bit : List (List ℕ) → ℕ → ℕ → ℕ
plane_bit planes plane key = bit_at (slice_index (slice_index_or planes plane []) (key / 16)) (key % 16)

-- the newest of these samples of a key, newest first, and the bits of how many of the latest are equal, counted to five
pub record IsCounted (past : List Bool) (latest : Bool) (one two four : ℕ) : Type 0 where
  pub other : run_of (not latest) past ≡ 0
  pub ones : one ≡ bit_at (equal_latest past) 0
  pub twos : two ≡ bit_at (equal_latest past) 1
  pub fours : four ≡ bit_at (equal_latest past) 2

-- the counts of two rows after one more sample of each of their keys
pub record Recounted (before : Count) (latest sample : ℕ) (after : Count) : Type 0 where
  pub each : (column : ℕ) → column < 32 → (past : List Bool)
      → IsCounted past (bit_at latest column == 1) (bit_at before.ones column) (bit_at before.twos column) (bit_at before.fours column)
      → IsCounted ((bit_at sample column == 1) ∷ past) (bit_at sample column == 1) (bit_at after.ones column) (bit_at after.twos column) (bit_at after.fours column)

-- what is kept refines these scans, newest first
pub record Refines (scans : List Scan) (kept : Counted) : Type 0 where
  pub matrix : matrix.Refines scans kept.matrix
  pub each : (key : ℕ) → key < 96 → IsCounted (samples scans key) (has kept.latest key) (plane_bit kept.planes 0 key) (plane_bit kept.planes 1 key) (plane_bit kept.planes 2 key)
