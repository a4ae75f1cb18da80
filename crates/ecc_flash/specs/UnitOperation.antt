-- Trusted: an operation on the write units of a flash, by what it asks for.
use Rattle.shapes.specs.Shapes.{Bytes}
use Rattle.std.specs.Prelude.{ℕ}

-- a unit of a page is programmed with eight bytes; or the units of a page are erased
pub data UnitOperation : Type 0 where
  programs_unit : (page unit : ℕ) (bytes : Bytes) → UnitOperation
  erases_units : (page : ℕ) → UnitOperation
