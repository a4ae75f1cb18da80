-- Trusted: what a torn operation may leave of some bytes.
use Rattle.shapes.specs.Shapes.{Bytes}
use Rattle.std.specs.Prelude.{◌≡◌, ℕ, ◌≤◌, length, slice_index, bit_and}
use Rattle.std.specs.Int.{bit_at}

-- each bit that is set in y is set in x
pub record Within (y x : Bytes) : Type 0 where
  pub same_length : length y ≡ length x
  pub bits : (k i : ℕ) → bit_at (slice_index y k) i ≤ bit_at (slice_index x k) i

-- y is x with some of the bits cleared that are clear in the bytes programmed
pub record ProgramMayLeave (x programmed y : Bytes) : Type 0 where
  pub clears_only : Within y x
  pub keeps : (k i : ℕ) → bit_at (bit_and (slice_index x k) (slice_index programmed k)) i ≤ bit_at (slice_index y k) i

-- y is x with some of its clear bits set
abbrev pub EraseMayLeave : Bytes → Bytes → Type 0
EraseMayLeave x y = Within x y
