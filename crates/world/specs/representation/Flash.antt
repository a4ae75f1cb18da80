-- Representation: a flash whose mask may be left out.
use Rattle.shapes.specs.Shapes.{Bytes}
use Rattle.std.specs.Prelude.{Option, None, Some}
use Rattle.flash_model.specs.Sim.{SimValue}
use Rattle.world.specs.Flash.{armed_by}

-- the flash armed by a mask, where there is one
abbrev pub torn_by : Option Bytes → SimValue → SimValue
torn_by None flash = flash
torn_by (Some mask) flash = armed_by mask flash
