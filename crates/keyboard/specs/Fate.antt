-- Trusted: what becomes of a command that was accepted.
use Rattle.std.specs.Prelude.{ℕ, ◌==◌, Bool, false, not, if◌then◌else◌, Result, Ok, Err, List, [], ◌∷◌}
use Rattle.layers.specs.Codes.{layers, keys, DefaultCodes}
use Rattle.layers.specs.Entries.{changed}
use Rattle.layers.specs.Held.{any_below}
use Rattle.layers.specs.declared.code.KeymapError.{KeymapError}
use Rattle.layers.specs.declared.command.Command.{Command}
use Rattle.keymap_store.specs.declared.store.Work.{Work as WorkAnswer}
use Rattle.keymap_store.specs.declared.store.Work.TheVariants.{Settled, Failed}
use Rattle.keyboard.specs.Calls.{Call, Worked}

-- it works until its record is in the flash, or until it failed
pub data Fate : Type 0 where
  works : Fate
  settled : Fate
  failed : Fate

module _ (defaults : DefaultCodes) where
  -- some entry differs after the command: `ChangesSome` as a test
  unfoldable pub changes : (ℕ → ℕ → ℕ) → Command → Bool
  changes entries command =
      any_below (λ layer. any_below (λ key. not (changed defaults entries (command ∷ []) layer key == entries layer key)) keys) layers

  -- so where the bytes are a command at all
  abbrev pub changes_by : (ℕ → ℕ → ℕ) → Result Command KeymapError → Bool
  changes_by entries (Ok command) = changes entries command
  changes_by entries (Err error) = false

  -- a step of the flash work that answers Settled or Failed ends the command that works
  abbrev pub ended_by_work : WorkAnswer → Fate → Fate
  ended_by_work Settled works = settled
  ended_by_work Failed works = failed
  ended_by_work _ fate = fate

  -- a call that is such a step ends the command that works
  abbrev pub ended_by : Call → Fate → Fate
  ended_by (Worked work image) fate = ended_by_work work fate
  ended_by _ fate = fate

  -- what has become of a command by the calls after it, newest first, where it changes something: the first of them that
  -- answers Settled or Failed decides
  abbrev pub fate_after : List Call → Fate
  fate_after [] = works
  fate_after (call ∷ before) = ended_by call (fate_after before)

  -- a command that changes nothing is settled at once
  abbrev pub fate : (ℕ → ℕ → ℕ) → Command → List Call → Fate
  fate entries command after = if changes entries command then fate_after after else settled
