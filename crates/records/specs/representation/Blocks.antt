-- Representation: a number among bytes.
use Rattle.shapes.specs.Shapes.{Bytes}
use Rattle.std.specs.Prelude.{ℕ, ◌+◌, ◌*◌, slice_index}

-- the number in the four bytes from a place on, the low byte first
abbrev pub number_at : Bytes → ℕ → ℕ
number_at bytes at = slice_index bytes at + slice_index bytes (at + 1) * 256 + slice_index bytes (at + 2) * 65536 + slice_index bytes (at + 3) * 16777216
