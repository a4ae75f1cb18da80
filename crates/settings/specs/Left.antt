-- Trusted: how many flash operations the changes under way still need.
use Rattle.shapes.specs.Shapes.{Bytes}
use Rattle.std.specs.Prelude.{◌≡◌, ℕ, ◌+◌, ◌-◌, List, if◌then◌else◌, length}
use Rattle.page_turnover.specs.Value.{LogValue, Target, Unread, Holds, Task, Wait, Copy, Seal}
use Rattle.page_turnover.specs.Words.{IsBlank}
use Rattle.page_turnover.specs.Blank.{is_blank}
use Rattle.page_turnover.specs.Turn.{target_page, copied}
use Rattle.settings.specs.declared.change.Change.{Change}
use Rattle.settings.specs.declared.store.Job.{Job}
use Rattle.settings.specs.declared.store.Job.TheVariants.{Resting, Appending, Turning}
use Rattle.settings.specs.Begins.{IsAppended, alive}
use Rattle.settings.specs.Places.{own_words}
use Rattle.settings.specs.Store.{SettingsValue}

-- 1 where the target of a compaction has to be erased: it was not read yet, and is not blank; else 0
unfoldable pub erases_left : Bytes → Target → ℕ
erases_left image Unread = if is_blank image (target_page image) then 0 else 1
erases_left image (Holds n) = 0

-- what a log knows of the target of its compaction
abbrev pub target_of : Task → Target
target_of (Wait target) = target
target_of (Copy target word) = target
target_of (Seal target) = target
target_of _ = Unread

-- a compaction needs its erase, the copies that it has not made, and its header
abbrev pub turn_left : Bytes → List Change → Target → ℕ
turn_left image changes target = erases_left image target + (alive image changes - copied target) + 1

-- how many words one change has
abbrev pub first_words : List Change → ℕ
first_words changes = length (own_words changes)

abbrev pub left_for : Bytes → List Change → LogValue → Job → ℕ
left_for image changes log Resting = 0
left_for image changes log (Appending at) = first_words changes - at
left_for image changes log (Turning from at) = turn_left image changes (target_of log.task)

-- the operations that the changes under way still need; 0 where none are
abbrev pub left : Bytes → List Change → SettingsValue → ℕ
left image changes settings = left_for image changes settings.log settings.job

-- what changes need that were just taken: a program for each word of one that is appended; else one for each word that is
-- alive then and one for the header, and an erase where the page after the active one is not blank
pub record Needs (image : Bytes) (changes : List Change) (count : ℕ) : Type 0 where
  pub appended : IsAppended image changes → count ≡ first_words changes
  pub blank : (IsAppended image changes → ⊥) → IsBlank image (target_page image) → count ≡ alive image changes + 1
  pub used : (IsAppended image changes → ⊥) → (IsBlank image (target_page image) → ⊥) → count ≡ 1 + alive image changes + 1
