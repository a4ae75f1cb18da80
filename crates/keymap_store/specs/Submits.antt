-- Trusted: when a command is taken, and why it is refused.
use Rattle.shapes.specs.Shapes.{Bytes}
use Rattle.std.specs.Prelude.{◌≡◌, ◌-◌, ◌^◌, ◌⊎◌, ℕ, None, Some, Result, Ok, Err, IsSome}
use Rattle.layers.specs.Codes.{DefaultCodes}
use Rattle.layers.specs.declared.command.Command.{Command}
use Rattle.layers.specs.Entries.{ChangesSome, ChangesNothing}
use Rattle.page_turnover.specs.Active.{active}
use Rattle.page_turnover.specs.Words.{HasRoom}
use Rattle.page_turnover.specs.Usable.{IsUsable}
use Rattle.page_turnover.specs.Turn.{CanTurn}
use Rattle.keymap_store.specs.declared.store.Job.{Job}
use Rattle.keymap_store.specs.declared.store.Taken.{Taken}
use Rattle.keymap_store.specs.declared.store.Taken.TheVariants.{Settled, Working}
use Rattle.keymap_store.specs.declared.store.SubmitRefusal.{SubmitRefusal}
use Rattle.keymap_store.specs.declared.store.SubmitRefusal.TheVariants.{Busy, Unsound, Worn}
use Rattle.keymap_store.specs.Keymap.{entries_of}
use Rattle.keymap_store.specs.Store.{working}

-- no command works, and all slots 0 are sound
pub record MayWrite (image : Bytes) (job : Job) : Type 0 where
  pub idle : working job ≡ None
  pub usable : IsUsable image

-- no room, and the active page has the last sequence number
pub record IsWorn (image : Bytes) : Type 0 where
  pub page : ℕ
  pub last : active image ≡ Some (page, 2 ^ 28 - 1)
  pub full : HasRoom image → ⊥

-- room, or a compaction that makes it
abbrev pub HasPlace : Bytes → Type 0
HasPlace image = HasRoom image ⊎ ((HasRoom image → ⊥) × CanTurn image)

module _ (defaults : DefaultCodes) where
  -- when each answer to a command comes
  abbrev pub Submits : Bytes → Job → Command → Result Taken SubmitRefusal → Type 0
  Submits image job command (Err Busy) = IsSome (working job)
  Submits image job command (Err Unsound) = (working job ≡ None) × (IsUsable image → ⊥)
  Submits image job command (Ok Settled) = MayWrite image job × ChangesNothing defaults (entries_of defaults image) command
  Submits image job command (Err Worn) = MayWrite image job × ChangesSome defaults (entries_of defaults image) command × IsWorn image
  Submits image job command (Ok Working) = MayWrite image job × ChangesSome defaults (entries_of defaults image) command × HasPlace image
