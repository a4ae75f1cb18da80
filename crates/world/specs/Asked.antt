-- Trusted: which operation the flash is asked for.
use Rattle.std.specs.Prelude.{Option, None, Some, List, [], ◌∷◌}
use Rattle.std.specs.Option.{option_map}
use Rattle.flash_model.specs.FlashOperation.{FlashOperation, programs, erases}
use Rattle.flash_model.specs.Sim.{SimValue}
use Rattle.layers.specs.Codes.{DefaultCodes}
use Rattle.page_turnover.specs.Next.{on_flash}
use Rattle.world.specs.declared.injector.Operation.{Operation}
use Rattle.world.specs.declared.injector.Operation.TheVariants as operation
use Rattle.world.specs.Erases.{operation_of}
use Rattle.world.specs.Kinds.{Step}
use Rattle.world.specs.History.{flash_after}
use Rattle.world.specs.Order.{found_by}

-- what is noted of an operation: a program with its place and its bytes, or an erase with its page
abbrev pub noted : FlashOperation → Operation
noted (programs page slot bytes) = operation.Program page slot bytes
noted (erases page) = operation.Erase page

-- a step of the flash work asks for what it makes; any other changes nothing
abbrev pub asked_by : Option SimValue → Option Operation → Option Operation → Option Operation
asked_by None made before = before
asked_by (Some found) made before = made

module _ (defaults : DefaultCodes) where
  -- the operation that the latest step of the flash work asked for: the next one of the command at work, and none without one
  abbrev pub asked_after : SimValue → List Step → Option Operation
  asked_after start [] = None
  asked_after start (step ∷ before) =
      asked_by (found_by step.event (flash_after start before)) (option_map (λ made. noted (on_flash made)) (operation_of defaults start before step)) (asked_after start before)
