-- Representation: what contracts see of the world.
use Rattle.std.specs.Prelude.{Option}
use Rattle.flash_model.specs.Sim.{SimValue}
use Rattle.keyboard.specs.representation.Value.{KeyboardValue}
use Rattle.host.specs.declared.gatherer.Host.{Host}
use Rattle.world.specs.declared.injector.Operation.{Operation}

-- the keyboard, its host and its flash, and the operation that the latest step asked for
pub record WorldValue : Type 0 where
  pub keyboard : KeyboardValue
  pub host : Host
  pub flash : SimValue
  pub asked : Option Operation
