-- Trusted: what a step leaves that is torn.
use Rattle.std.specs.Prelude.{◌≡◌, IsSome, List}
use Rattle.flash_model.specs.Sim.{SimValue}
use Rattle.layers.specs.Codes.{DefaultCodes}
use Rattle.keyboard.specs.Commands.{working}
use Rattle.keyboard.specs.Feature.{Where}
use Rattle.keyboard.specs.Single.{MayBeTorn}
use Rattle.world.specs.declared.event.Event.{Event}
use Rattle.world.specs.declared.event.Event.TheVariants.{WorkFault, CutInWork}
use Rattle.world.specs.Kinds.{Step}
use Rattle.world.specs.History.{session, image_after}

-- the flash work of a step is torn by a fault, or by a cut inside it
abbrev pub IsTorn : Event → Type 0
IsTorn (WorkFault mask) = Unit {0}
IsTorn (CutInWork mask) = Unit {0}
IsTorn _ = ⊥

module _ (defaults : DefaultCodes) where
  -- while a command works such a step leaves what the next operation of this command may leave where it is torn; else nothing changes
  abbrev pub LeavesTorn : SimValue → List Step → Step → Type 0
  LeavesTorn start before step =
      IsTorn step.event
      → Where (IsSome (working defaults (session start before).first (session start before).past))
      (MayBeTorn defaults (session start before).first (session start before).past step.flash.image)
      (step.flash.image ≡ image_after start before)
