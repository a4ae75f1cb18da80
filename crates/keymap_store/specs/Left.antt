-- Trusted: how many flash operations the command that works still needs.
use Rattle.shapes.specs.Shapes.{Bytes}
use Rattle.std.specs.Prelude.{◌≡◌, ℕ, zero, suc, ◌+◌, ◌-◌, ◌==◌, if◌then◌else◌}
use Rattle.layers.specs.Codes.{default_at, DefaultCodes}
use Rattle.layers.specs.Copies.{places, entry_at}
use Rattle.page_turnover.specs.Value.{LogValue, Target, Unread, Holds, Task, Wait, Copy, Seal}
use Rattle.page_turnover.specs.Words.{HasRoom, IsBlank}
use Rattle.page_turnover.specs.Blank.{is_blank}
use Rattle.page_turnover.specs.Turn.{target_page, copied}
use Rattle.keymap_store.specs.declared.store.Job.{Job}
use Rattle.keymap_store.specs.declared.store.Job.TheVariants.{Resting, Appending, Turning}
use Rattle.keymap_store.specs.Keymap.{entries_of}
use Rattle.keymap_store.specs.Value.{StoreValue}

-- 1 where the target of a compaction has to be erased: it was not read yet, and is not blank; else 0
unfoldable pub erases_left : Bytes → Target → ℕ
erases_left image Unread = if is_blank image (target_page image) then 0 else 1
erases_left image (Holds n) = 0

-- what a log knows of the target of its compaction
abbrev pub target_of : Task → Target
target_of (Wait target) = target
target_of (Copy target word) = target
target_of (Seal target) = target
target_of _ = Unread

module _ (defaults : DefaultCodes) where
  -- how many entries below a place differ from the default
  unfoldable pub differing_below : (ℕ → ℕ → ℕ) → ℕ → ℕ
  differing_below entries zero = 0
  differing_below entries (suc place) =
      if entry_at entries place == default_at defaults place then differing_below entries place
      else differing_below entries place + 1

  -- how many entries of an image's keymap differ from the default
  unfoldable pub differing : Bytes → ℕ
  differing image = differing_below (entries_of defaults image) places

  -- a compaction needs its erase, the copies that it has not made, and its header; the record comes after it
  abbrev pub turn_left : Bytes → Target → ℕ
  turn_left image target = erases_left image target + (differing image - copied target) + 2

  -- the operations that a job still needs: none at rest, one for a record that there is room for, else those of a compaction with
  -- the record after it
  abbrev pub left_for : Bytes → LogValue → Job → ℕ
  left_for image log Resting = 0
  left_for image log (Appending command) = 1
  left_for image log (Turning command from) = turn_left image (target_of log.task)

  -- the operations that the command that works still needs; 0 where none works
  abbrev pub left : Bytes → StoreValue → ℕ
  left image store = left_for image store.log store.job

  -- what a command needs that was just taken: its record, and without room before it a header, a copy for each entry that
  -- differs from the default, and an erase where the page after the active one is not blank
  pub record Needs (image : Bytes) (count : ℕ) : Type 0 where
    pub room : HasRoom image → count ≡ 1
    pub blank : (HasRoom image → ⊥) → IsBlank image (target_page image) → count ≡ differing image + 2
    pub used : (HasRoom image → ⊥) → (IsBlank image (target_page image) → ⊥) → count ≡ 1 + differing image + 2
