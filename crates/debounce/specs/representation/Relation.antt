-- Representation: what is kept refines the scans that were fed.
use Rattle.std.specs.Prelude.{ℕ, ◌<◌, ◌/◌, ◌%◌, List}
use Rattle.debounce.specs.declared.Scan.{Scan}
use Rattle.debounce.specs.Samples.{samples}
use Rattle.debounce.specs.representation.Kept.{Kept, row_of}
use Rattle.debounce.specs.representation.Rows.{KeyRefines, bits_of}

-- what is kept of all keys refines these scans, newest first
pub record Refines (scans : List Scan) (kept : Kept) : Type 0 where
  pub each : (key : ℕ) → key < 96 → KeyRefines (samples scans key) (bits_of (row_of kept (key / 32)) (key % 32))
