-- Representation: a store mirrors an image.
use Rattle.shapes.specs.Shapes.{Bytes}
use Rattle.std.specs.Prelude.{◌≡◌, ◌≤◌, ℕ, [], ◌∷◌, ◌++◌, Some}
use Rattle.layers.specs.Codes.{DefaultCodes}
use Rattle.layers.specs.declared.command.Command.{Command}
use Rattle.layers.specs.Commands.{command_of, word_of}
use Rattle.layers.specs.Copies.{AreCopies, places}
use Rattle.layers.specs.Keymaps.{HasEntries}
use Rattle.page_turnover.specs.Value.{LogValue, Task, Rest, Append, Wait, Copy, Seal}
use Rattle.page_turnover.specs.representation.Log.{Describes}
use Rattle.page_turnover.specs.Words.{HasRoom}
use Rattle.page_turnover.specs.Turn.{copies}
use Rattle.keymap_store.specs.declared.store.Job.{Job}
use Rattle.keymap_store.specs.declared.store.Job.TheVariants.{Resting, Appending, Turning}
use Rattle.keymap_store.specs.Keymap.{entries_of}
use Rattle.keymap_store.specs.Value.{StoreValue}

module _ (defaults : DefaultCodes) where
  -- a compaction was offered the entries below a place that differ from the default, and has copied them or has one still to copy
  abbrev pub OffersBelow : (ℕ → ℕ → ℕ) → ℕ → Bytes → Task → Type 0
  OffersBelow entries from image (Wait target) = AreCopies defaults entries from (copies image (Wait target))
  OffersBelow entries from image (Copy target word) = AreCopies defaults entries from (copies image (Copy target word) ++ word ∷ [])
  OffersBelow entries from image (Seal target) = AreCopies defaults entries places (copies image (Seal target))
  OffersBelow entries from image _ = ⊥

-- the log appends the command's record
pub record IsAppending (log : LogValue) (command : Command) : Type 0 where
  pub task_is : log.task ≡ Append (word_of command)
  pub reads_back : command_of (word_of command) ≡ Some command

module _ (defaults : DefaultCodes) where
  -- there is no room, and the log's compaction copies the entries
  pub record IsTurning (image : Bytes) (log : LogValue) (from : ℕ) : Type 0 where
    pub no_room : HasRoom image → ⊥
    pub within : from ≤ places
    pub offers : OffersBelow defaults (entries_of defaults image) from image log.task

  -- what the log has under way for a job
  abbrev pub JobIs : Bytes → LogValue → Job → Type 0
  JobIs image log Resting = log.task ≡ Rest
  JobIs image log (Appending command) = IsAppending log command
  JobIs image log (Turning command from) = IsTurning image log from

  -- a store mirrors an image: a clause for each field
  pub record Mirrors (image : Bytes) (store : StoreValue) : Type 0 where
    pub log_is : Describes image store.log
    pub keymap_is : HasEntries (entries_of defaults image) store.keymap
    pub job_is : JobIs image store.log store.job
