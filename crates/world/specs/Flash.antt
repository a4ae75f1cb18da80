-- Trusted: a flash that is armed by a mask, by which its next operation is torn.
use Rattle.shapes.specs.Shapes.{Bytes}
use Rattle.std.specs.Prelude.{Some}
use Rattle.flash_model.specs.Sim.{SimValue}

-- the flash armed by a mask, in place of what was armed before
abbrev pub armed_by : Bytes → SimValue → SimValue
armed_by mask flash = record flash { armed = Some mask }
