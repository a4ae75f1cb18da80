-- Trusted: an operation of a flash, by what it asks for.
use Rattle.shapes.specs.Shapes.{Bytes}
use Rattle.std.specs.Prelude.{ℕ}

-- a slot of a page is programmed with eight bytes; or a page is erased
pub data FlashOperation : Type 0 where
  programs : (page slot : ℕ) (bytes : Bytes) → FlashOperation
  erases : (page : ℕ) → FlashOperation
