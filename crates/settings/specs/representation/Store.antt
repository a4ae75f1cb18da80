-- Representation: settings refine an image, with changes under way.
use Rattle.shapes.specs.Shapes.{Bytes, SlotWords}
use Rattle.std.specs.Prelude.{◌≡◌, ℕ, ◌+◌, ◌^◌, ◌<◌, ◌≤◌, Option, Some, None, List, [], ◌∷◌, ◌++◌, All, length, take}
use Rattle.page_turnover.specs.declared.log.ActivePage.{ActivePage}
use Rattle.page_turnover.specs.Value.{LogValue, Task, Rest, Append, Wait, Copy, Seal}
use Rattle.page_turnover.specs.representation.Log.{Describes}
use Rattle.page_turnover.specs.Turn.{copies, offered, IsPending, HasShortWord}
use Rattle.page_turnover.specs.Words.{words}
use Rattle.settings.specs.declared.change.Change.{Change}
use Rattle.settings.specs.declared.store.Job.{Job}
use Rattle.settings.specs.declared.store.Job.TheVariants.{Resting, Appending, Turning}
use Rattle.settings.specs.Words.{words_of, IsChange}
use Rattle.settings.specs.Settings.{changed}
use Rattle.settings.specs.Copies.{kept_words, copies_below, all_copies}
use Rattle.settings.specs.Store.{SettingsValue}
use Rattle.settings.specs.Left.{target_of}

-- each is a change
abbrev pub AreChanges : List Change → Type 0
AreChanges changes = All (λ change. IsChange change) changes

-- a log compacts: it waits, or was offered a copy or its commit header
abbrev pub IsTurn : Task → Type 0
IsTurn Rest = ⊥
IsTurn (Append word) = ⊥
IsTurn (Wait target) = Unit {0}
IsTurn (Copy target word) = Unit {0}
IsTurn (Seal target) = Unit {0}

-- it was offered its commit header
abbrev pub IsSeal : Task → Type 0
IsSeal Rest = ⊥
IsSeal (Append word) = ⊥
IsSeal (Wait target) = ⊥
IsSeal (Copy target word) = ⊥
IsSeal (Seal target) = Unit {0}

-- the words of the ids below one, and the first of its own
abbrev pub given_words : (ℕ → Option Bytes) → ℕ → ℕ → SlotWords
given_words values from at = copies_below values from ++ take at (kept_words from (values from))

-- so many words of one change are there, and there is room for the others
pub record IsAppending (image : Bytes) (changes : List Change) (log : LogValue) (at : ℕ) : Type 0 where
  pub are_changes : AreChanges changes
  pub change : Change
  pub one : changes ≡ change ∷ []
  pub first : SlotWords
  pub words_are : words image ≡ first ++ take at (words_of change)
  pub more : at < length (words_of change)
  pub rests : log.task ≡ Rest
  pub usable : log.unsound ≡ None
  pub place : ActivePage
  pub is_active : log.active ≡ Some place
  pub current : place.format ≡ 2
  pub room : place.tail + length (words_of change) ≤ 512 + at

-- a log compacts to the words of the values after the changes, and was given those of the ids below one, and some of its own
pub record IsTurning (image : Bytes) (changes : List Change) (log : LogValue) (from at : ℕ) : Type 0 where
  pub are_changes : AreChanges changes
  pub of_turn : IsTurn log.task
  pub within : from ≤ 2 ^ 16
  pub own : 0 < at → (from < 2 ^ 16) × (at < length (kept_words from (changed image changes from)))
  pub given : copies image log.task ++ offered log.task ≡ given_words (changed image changes) from at
  pub all : IsSeal log.task → copies image log.task ≡ all_copies (changed image changes)
  pub short : HasShortWord log.task
  pub fits : length (all_copies (changed image changes)) ≤ 511

-- what the log has under way for a job
abbrev pub JobIs : Bytes → List Change → LogValue → Job → Type 0
JobIs image changes log Resting = log.task ≡ Rest
JobIs image changes log (Appending at) = IsAppending image changes log at
JobIs image changes log (Turning from at) = IsTurning image changes log from at

-- settings refine an image, with these changes under way
pub record Relation (image : Bytes) (changes : List Change) (settings : SettingsValue) : Type 0 where
  pub log_is : Describes image settings.log
  pub job_is : JobIs image changes settings.log settings.job

-- settings refine an image, whatever is under way
pub record Refines (image : Bytes) (settings : SettingsValue) : Type 0 where
  pub changes : List Change
  pub refines : Relation image changes settings

-- a compaction that was offered what it wants: it goes on as before, and has something pending
pub record IsOffered (image : Bytes) (changes : List Change) (before after : SettingsValue) : Type 0 where
  pub refines : Relation image changes after
  pub from : ℕ
  pub at : ℕ
  pub job : after.job ≡ Turning from at
  pub pending : IsPending after.log.task
  pub target : target_of after.log.task ≡ target_of before.log.task
