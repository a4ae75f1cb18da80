-- Trusted: how many steps of the flash work a command takes.
use Rattle.shapes.specs.Shapes.{Bytes}
use Rattle.std.specs.Prelude.{ℕ, suc, ◌≤◌, IsSome, Option, Some, None, List, [], ◌∷◌}
use Rattle.layers.specs.Codes.{DefaultCodes}
use Rattle.layers.specs.declared.command.Command.{Command}
use Rattle.keyboard.specs.Calls.{Call, Worked, image_after}
use Rattle.keyboard.specs.Commands.{accepts, working}

-- the most that a command takes: an erase, a copy of each entry, a header, and its record
abbrev pub most_steps : ℕ
most_steps = 387

-- one step of the flash work more
abbrev pub counted : Call → ℕ → ℕ
counted (Worked work image) count = suc count
counted _ count = count

-- a count that starts anew where a command is accepted
abbrev pub unless_accepted : Option Command → ℕ → ℕ
unless_accepted (Some command) count = 0
unless_accepted None count = count

-- the steps of the flash work since the latest command was accepted, also those that were idle
unfoldable pub steps_since : List Call → ℕ
steps_since [] = 0
steps_since (call ∷ before) = unless_accepted (accepts before call) (counted call (steps_since before))

-- the image where a command is accepted, else the one that was noted before
abbrev pub image_if : Option Command → Bytes → Bytes → Bytes
image_if (Some command) image before = image
image_if None image before = before

-- the flash's image when the latest command was accepted
unfoldable pub accepted_image : Bytes → List Call → Bytes
accepted_image start [] = start
accepted_image start (call ∷ before) = image_if (accepts before call) (image_after start before) (accepted_image start before)

module _ (defaults : DefaultCodes) where
  -- while a command works fewer steps than the most were made for it, so it is settled or failed by the last of them
  abbrev pub IsInTime : Bytes → List Call → Type 0
  IsInTime start past = IsSome (working defaults start past) → suc (steps_since past) ≤ most_steps
