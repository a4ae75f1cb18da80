-- Representation: which extents can be reckoned with in 128 bits. Those of a descriptor can.
use Rattle.std.specs.Prelude.{◌^◌, ◌≤◌, unsigned_abs}
use Rattle.field_values.specs.declared.physical.Extents.{Extents}

-- physical extents are of 32 bits, signed or not
pub record FitsExtents (extents : Extents) : Type 0 where
  pub min : unsigned_abs extents.min ≤ 2 ^ 32
  pub max : unsigned_abs extents.max ≤ 2 ^ 32
