-- Trusted: the keys of a scan.
use Rattle.std.specs.Prelude.{ℕ, ◌/◌, ◌%◌, ◌==◌, Bool, List, slice_index}
use Rattle.std.specs.Int.{bit_at}
use Rattle.std.specs.List.{filter, range_with_len}
use Rattle.debounce.specs.declared.Scan.{Scan}

-- bit c of row r is key 16 * r + c
unfoldable pub has : Scan → ℕ → Bool
has scan key = bit_at (slice_index scan.rows (key / 16)) (key % 16) == 1

-- the keys of a scan, in rising order
unfoldable pub set_keys : Scan → List ℕ
set_keys scan = filter (has scan) (range_with_len 0 96)
