-- Trusted: in which order the flash operations of a command come, and where headers come from.
use Rattle.shapes.specs.Shapes.{Bytes}
use Rattle.std.specs.Prelude.{◌≡◌, ℕ, suc, ◌<◌, Option, None, Some, List, length, slice_get}
use Rattle.flash_model.specs.Operated.{IsOperated}
use Rattle.flash_model.specs.Sim.{SimValue}
use Rattle.layers.specs.Codes.{DefaultCodes}
use Rattle.layers.specs.declared.command.Command.{Command}
use Rattle.page_turnover.specs.declared.operation.Operation.{Operation}
use Rattle.page_turnover.specs.Next.{on_flash, ReadsBack}
use Rattle.keymap_store.specs.Operations.{operations_of}
use Rattle.keymap_store.specs.declared.store.Work.TheVariants.{Working, Settled, Failed}
use Rattle.keyboard.specs.Bounded.{accepted_image, steps_since}
use Rattle.keyboard.specs.Commands.{working}
use Rattle.keyboard.specs.Headers.{OwnHeaders}
use Rattle.world.specs.declared.event.Answer.{Answer}
use Rattle.world.specs.declared.event.Answer.TheVariants.{Worked}
use Rattle.world.specs.declared.event.Event.{Event}
use Rattle.world.specs.declared.event.Event.TheVariants.{Work, WorkFault, CutInWork}
use Rattle.world.specs.Flash.{armed_by}
use Rattle.world.specs.Kinds.{Step}
use Rattle.world.specs.History.{Session, session, flash_after}

-- the flash as a step of the flash work finds it: a fault, and a cut inside the step, arm it by their mask
abbrev pub found_by : Event → SimValue → Option SimValue
found_by Work flash = Some flash
found_by (WorkFault mask) flash = Some (armed_by mask.items flash)
found_by (CutInWork mask) flash = Some (armed_by mask.items flash)
found_by _ flash = None

-- a step is told how its operation ended, unless the power is cut inside it
abbrev pub TellsEnd : Event → Type 0
TellsEnd (CutInWork mask) = ⊥
TellsEnd _ = Unit {0}

module _ (defaults : DefaultCodes) where
  -- the operations of the command at work, by the flash when it was accepted
  abbrev pub operations_in : Session → Command → List Operation
  operations_in now command = operations_of defaults (accepted_image now.first now.past) command

-- how the operation with so many before it in a list ends: what reads as intended goes on to the next one, and settles the command
-- after the last; any other fails it
pub record EndsBy (operations : List Operation) (made : ℕ) (operation : Operation) (image : Bytes) (answer : Answer) : Type 0 where
  pub goes_on : ReadsBack operation image → suc made < length operations → answer ≡ Worked Working
  pub settles : ReadsBack operation image → suc made ≡ length operations → answer ≡ Worked Settled
  pub fails : (ReadsBack operation image → ⊥) → answer ≡ Worked Failed

module _ (defaults : DefaultCodes) where
  -- the operation that a step makes is the next in the list of the command's, which the flash gave when the command was accepted:
  -- so many come before it as steps were made for the command. The flash after it is what the operation makes, whole, or torn by
  -- the mask that is armed; and unless the power is cut inside it, which ends the session, it is told how it ends
  pub record IsNextOperation (now : Session) (command : Command) (old : SimValue) (event : Event) (answer : Answer) (new : SimValue) : Type 0 where
    pub operation : Operation
    pub is_next : slice_get (operations_in defaults now command) (steps_since now.past) ≡ Some operation
    pub makes : IsOperated old (on_flash operation) new
    pub ends : TellsEnd event → EndsBy (operations_in defaults now command) (steps_since now.past) operation new.image answer

  -- while a command works, each step of the flash work makes its next operation
  abbrev pub WorksInOrder : SimValue → List Step → Step → Type 0
  WorksInOrder start before step =
      (command : Command) (old : SimValue) → working defaults (session start before).first (session start before).past ≡ Some command
      → found_by step.event (flash_after start before) ≡ Some old → IsNextOperation (session start before) command old step.event step.answer step.flash

  -- each header after a step stood there before, or the step had to write it
  abbrev pub WritesOwnHeader : SimValue → List Step → Step → Type 0
  WritesOwnHeader start before step = OwnHeaders defaults (session start before).first (session start before).past step.flash.image
