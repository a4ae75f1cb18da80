-- Trusted: what is known of the units of a flash in memory, and a code.
use Rattle.shapes.specs.Shapes.{Bytes}
use Rattle.std.specs.Prelude.{ℕ, ◌+◌, ◌*◌, Some, true, if◌then◌else◌, nat_lt, List, ◌++◌, replicate, slice_index_or}
use Rattle.ecc_flash.specs.Reading.{blank}
use Rattle.ecc_flash.specs.Model.{WriteUnit}
use Rattle.ecc_flash.specs.declared.witness.HeldUnit.{HeldUnit}

-- a unit that was never programmed
abbrev pub never : HeldUnit
never = record { meant = replicate 8 255; is_blank = true }

-- what it was last programmed with, and reads as
abbrev pub write_unit : HeldUnit → WriteUnit
write_unit held = record { meant = held.meant; reads = Some (if held.is_blank then blank else held.meant) }

-- a unit by its page and its place there
abbrev pub unit_at : List HeldUnit → ℕ → ℕ → WriteUnit
unit_at units page unit = write_unit (if nat_lt unit 1024 then slice_index_or units (1024 * page + unit) never else never)

-- the cells of check of a code that corrects one: those of the bytes, twice
abbrev pub twice : Bytes → Bytes
twice bytes = bytes ++ bytes
