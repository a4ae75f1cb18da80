-- Trusted: what a step of the flash work leaves in which the power fails.
use Rattle.shapes.specs.Shapes.{Bytes}
use Rattle.std.specs.Prelude.{◌≡◌, ℕ, None, Some, List, slice_get}
use Rattle.flash_model.specs.FlashOperation.{FlashOperation}
use Rattle.layers.specs.Codes.{DefaultCodes}
use Rattle.layers.specs.declared.command.Command.{Command}
use Rattle.page_turnover.specs.declared.operation.Operation.{Operation}
use Rattle.page_turnover.specs.Next.{on_flash}
use Rattle.keymap_store.specs.Operations.{operations_of}
use Rattle.keyboard.specs.Bounded.{steps_since, accepted_image}
use Rattle.keyboard.specs.Calls.{Call}
use Rattle.keyboard.specs.Commands.{working}

module _ (defaults : DefaultCodes) where
  -- no command works, and the flash is as after a power loss between two operations; or the power fails inside the next operation of
  -- the command at work, behind so many others of the flash below
  pub data WorkIsCut {F : Type 0} (rests : F → F → Type 0) (cuts : F → FlashOperation → ℕ → F → Type 0) (start : Bytes) (past : List Call) (old : F) (whole : ℕ) (new : F) : Type 0 where
    idles : working defaults start past ≡ None → rests old new → WorkIsCut rests cuts start past old whole new
    fails : (command : Command) (operation : Operation) → working defaults start past ≡ Some command
        → slice_get (operations_of defaults (accepted_image start past) command) (steps_since past) ≡ Some operation
        → cuts old (on_flash operation) whole new → WorkIsCut rests cuts start past old whole new
