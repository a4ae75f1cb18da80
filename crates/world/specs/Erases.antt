-- Trusted: how often pages are erased.
use Rattle.std.specs.Prelude.{ℕ, suc, ◌+◌, ◌≤◌, ◌==◌, ◌&&◌, Bool, true, false, Option, None, Some, List, [], ◌∷◌, slice_get}
use Rattle.flash_model.specs.Sim.{SimValue}
use Rattle.layers.specs.Codes.{DefaultCodes}
use Rattle.layers.specs.declared.command.Command.{Command}
use Rattle.page_turnover.specs.declared.operation.Operation.{Operation}
use Rattle.page_turnover.specs.declared.operation.Operation.TheVariants.{Erase}
use Rattle.page_turnover.specs.Active.{active}
use Rattle.keymap_store.specs.declared.store.Work.TheVariants.{Failed}
use Rattle.keyboard.specs.Bounded.{steps_since}
use Rattle.keyboard.specs.Calls.{Worked}
use Rattle.keyboard.specs.Commands.{working}
use Rattle.world.specs.Kinds.{Step, Kind, starts, calls, kind}
use Rattle.world.specs.History.{Session, session, flash_after, image_after}
use Rattle.world.specs.Order.{found_by, operations_in}

-- one more where a page is erased
abbrev pub with_erase : Option Operation → ℕ → ℕ
with_erase (Some (Erase page)) count = suc count
with_erase _ count = count

-- the same page is active, with the same sequence number, or none
abbrev pub is_same : Option (ℕ × ℕ) → Option (ℕ × ℕ) → Bool
is_same None None = true
is_same (Some one) (Some other) = (one.0 == other.0) && (one.1 == other.1)
is_same _ _ = false

-- one more where that is not so
abbrev pub unless_same : Bool → ℕ → ℕ
unless_same true count = count
unless_same false count = suc count

-- the steps that commit a header
unfoldable pub commits : SimValue → List Step → ℕ
commits start [] = 0
commits start (step ∷ before) =
    unless_same (is_same (active step.flash.image) (active (image_after start before))) (commits start before)

-- one more where the power is cut while a command works
abbrev pub with_cut : Kind → Option Command → ℕ → ℕ
with_cut starts (Some command) count = suc count
with_cut _ _ count = count

-- one more where a command fails
abbrev pub with_failure : Kind → ℕ → ℕ
with_failure (calls (Worked Failed image)) count = suc count
with_failure _ count = count

-- the commands that fail
unfoldable pub failures : List Step → ℕ
failures [] = 0
failures (step ∷ before) = with_failure (kind step) (failures before)

module _ (defaults : DefaultCodes) where
  -- the operation that a step of the flash work makes: the next one of the command at work, if one works
  abbrev pub next_in : Session → Option Command → Option Operation
  next_in now None = None
  next_in now (Some command) = slice_get (operations_in defaults now command) (steps_since now.past)

  -- so of a step that finds this flash; a step that is none of the flash work makes none
  abbrev pub made_in : Session → Option SimValue → Option Operation
  made_in now None = None
  made_in now (Some found) = next_in now (working defaults now.first now.past)

  -- the operation that a step makes, whole or torn
  abbrev pub operation_of : SimValue → List Step → Step → Option Operation
  operation_of start before step = made_in (session start before) (found_by step.event (flash_after start before))

  -- the steps that erase a page, whole or torn, one that is cut short too
  unfoldable pub erases : SimValue → List Step → ℕ
  erases start [] = 0
  erases start (step ∷ before) = with_erase (operation_of start before step) (erases start before)

  -- the cuts that catch a command
  unfoldable pub cuts : SimValue → List Step → ℕ
  cuts start [] = 0
  cuts start (step ∷ before) =
      with_cut (kind step) (working defaults (session start before).first (session start before).past) (cuts start before)

  -- over all sessions a page is erased at most once more than headers are committed, cuts catch a command and commands fail
  abbrev pub ErasesSeldom : SimValue → List Step → Type 0
  ErasesSeldom start history = erases start history ≤ suc (commits start history + cuts start history + failures history)
