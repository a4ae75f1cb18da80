-- Trusted: the flash operation that a store makes next.
use Rattle.shapes.specs.Shapes.{Bytes, SlotWords}
use Rattle.std.specs.Prelude.{ℕ, Option, length, slice_index, nat_lt, if◌then◌else◌}
use Rattle.layers.specs.Codes.{DefaultCodes}
use Rattle.layers.specs.Copies.{copies_below, places}
use Rattle.page_turnover.specs.declared.operation.Operation.{Operation}
use Rattle.page_turnover.specs.Value.{LogValue, Task, Wait, Copy, Seal}
use Rattle.page_turnover.specs.Turn.{copied}
use Rattle.page_turnover.specs.Next.{next_operation}
use Rattle.keymap_store.specs.Keymap.{entries_of}
use Rattle.keymap_store.specs.Value.{StoreValue}

module _ (defaults : DefaultCodes) where
  -- the words that a compaction copies: those that set the entries that differ from the default, by rising place
  abbrev pub all_copies : (ℕ → ℕ → ℕ) → SlotWords
  all_copies entries = copies_below defaults entries places

  -- a compaction that waits gets the copy after those that it has made, and its commit header after the last one
  abbrev pub next_task : (ℕ → ℕ → ℕ) → Task → Task
  next_task entries (Wait target) =
      if nat_lt (copied target) (length (all_copies entries)) then Copy target (slice_index (all_copies entries) (copied target))
      else Seal target
  next_task entries task = task

-- a log that was given this to do
abbrev pub with_task : LogValue → Task → LogValue
with_task log task = record log { task = task }

module _ (defaults : DefaultCodes) where
  -- the operation that `work` makes, if any
  abbrev pub next_operation_of : Bytes → StoreValue → Option Operation
  next_operation_of image store = next_operation image (with_task store.log (next_task defaults (entries_of defaults image) store.log.task))
