-- Trusted: what a step does, and what a whole call leaves.
use Rattle.shapes.specs.Shapes.{Bytes}
use Rattle.std.specs.Prelude.{◌≡◌, ◌≢◌, ◌↔◌, ◌⊎◌, ℕ, ◌+◌, ◌%◌, ◌^◌, ◌<◌, ◌≤◌, List, [], ◌∷◌, slice_index, length, Result, Err, IsOk}
use Rattle.flash_model.specs.FlashOperation.{FlashOperation}
use Rattle.page_turnover.specs.Steps.{Keeps}
use Rattle.page_turnover.specs.Turn.{target_page}
use Rattle.page_turnover.specs.Usable.{IsUsable}
use Rattle.settings.specs.declared.change.Change.{Change}
use Rattle.settings.specs.declared.store.Work.{Work}
use Rattle.settings.specs.declared.store.Work.TheVariants.{Idle, Working, Stored, Failed}
use Rattle.settings.specs.declared.store.Job.{Job}
use Rattle.settings.specs.declared.store.Job.TheVariants.{Resting, Appending, Turning}
use Rattle.settings.specs.declared.store.SettingsError.{SettingsError}
use Rattle.settings.specs.declared.store.SettingsError.TheVariants.{Fault}
use Rattle.settings.specs.Settings.{settings_of, changed, Same}
use Rattle.settings.specs.Begins.{IsKnown, IsAppended, IsRefused, IsAccepted}
use Rattle.settings.specs.Places.{own_words, Adds, IsCompacted}
use Rattle.settings.specs.Moments.{AtEachMoment, EndsInFault}
use Rattle.settings.specs.Store.{IsBusy, TakesTurn}

-- all values are as they were, or as they are after the changes
abbrev pub IsBeforeOrAfter : Bytes → List Change → Bytes → Type 0
IsBeforeOrAfter old changes new = Same (settings_of new) (settings_of old) ⊎ Same (settings_of new) (changed old changes)

-- at a moment of a call: so are the values, sound slots 0 stay so, and no words of something else came
pub record IsBetween (old : Bytes) (changes : List Change) (new : Bytes) : Type 0 where
  pub values : IsBeforeOrAfter old changes new
  pub usable : IsUsable old → IsUsable new
  pub known : IsKnown old → IsKnown new

-- what the answers of a step mean for the values
abbrev pub Gives : Bytes → List Change → Work → Bytes → Type 0
Gives old changes Idle new = new ≡ old
Gives old changes Working new = Same (settings_of new) (settings_of old)
Gives old changes Stored new = Same (settings_of new) (changed old changes)
Gives old changes Failed new = Same (settings_of new) (settings_of old)

-- where changes go that were just taken: one alone is appended, where there is room for its words; all others take a compaction
abbrev pub GoesTo : Bytes → List Change → Job → Type 0
GoesTo image changes Resting = ⊥
GoesTo image changes (Appending at) = IsAppended image changes × (at ≡ 0)
GoesTo image changes (Turning from at) = IsAppended image changes → ⊥

-- and for the changes: they stay under way while it answers Working
abbrev pub GoesOn : Job → Work → Job → Type 0
GoesOn before Idle after = (before ≡ Resting) × (after ≡ Resting)
GoesOn before Working after = IsBusy before × IsBusy after
GoesOn before Stored after = IsBusy before × (after ≡ Resting)
GoesOn before Failed after = IsBusy before × (after ≡ Resting)

-- while changes are under way, the next word of one that is appended is written; a compaction leaves the words and the active page as they are
abbrev pub WritesMore : Job → Bytes → List Change → Bytes → Job → Type 0
WritesMore Resting old changes new after = ⊥
WritesMore (Appending at) old changes new after = Adds old (slice_index (own_words changes) at ∷ []) new × (after ≡ Appending (at + 1)) × (at + 1 < length (own_words changes))
WritesMore (Turning from at) old changes new after = Keeps old new × (target_page new ≡ target_page old) × TakesTurn after

-- and last, the last word, or the header of the new page
abbrev pub WritesLast : Job → Bytes → List Change → Bytes → Type 0
WritesLast Resting old changes new = ⊥
WritesLast (Appending at) old changes new = Adds old (slice_index (own_words changes) at ∷ []) new × (at + 1 ≡ length (own_words changes))
WritesLast (Turning from at) old changes new = IsCompacted old changes new

-- what the answers of a step mean for the words
abbrev pub Writes : Job → Work → Bytes → List Change → Bytes → Job → Type 0
Writes before Idle old changes new after = new ≡ old
Writes before Working old changes new after = WritesMore before old changes new after
Writes before Stored old changes new after = WritesLast before old changes new
Writes before Failed old changes new after = Keeps old new

-- a step that answers Working leaves one operation less to make, Stored is the answer to the last one, and Idle to none
pub record CountsDown (work : Work) (before after : ℕ) : Type 0 where
  pub none : (work ≡ Idle) ↔ (before ≡ 0)
  pub fewer : work ≡ Working → after + 1 ≡ before
  pub last : work ≡ Stored → before ≡ 1
  pub ends : work ≢ Working → after ≡ 0
  pub few : before ≤ 513

-- the operations that were made are so many as P says
pub record HasMade (P : ℕ → Type 0) (operations operations_after : ℕ) : Type 0 where
  pub count : ℕ
  pub is : P count
  pub counted : operations_after % 2 ^ 64 ≡ (operations + count) % 2 ^ 64

-- what a call leaves that comes back when all is stored
pub record Stores {F T : Type 0} (image : F → Bytes) (operations faults : F → ℕ) (operates : F → FlashOperation → F → Type 0) (is_faultless : F → ℕ → Type 0)
    (changes : List Change) (result : Result T SettingsError) (old new : F) : Type 0 where
  -- Ok: the changes are in force
  pub stored : IsOk result → Same (settings_of (image new)) (changed (image old) changes)
  -- an error: all values are as before
  pub kept : (IsOk result → ⊥) → Same (settings_of (image new)) (settings_of (image old))
  -- at each moment all of the changes are in force or none, also where the power is cut inside an operation
  pub any_moment : AtEachMoment image operates (IsBetween (image old) changes) old new
  pub ends : IsBetween (image old) changes (image new)
  pub few : HasMade (λ count. count ≤ 513) (operations old) (operations new)
  -- each error has its cause, and but for `Fault` nothing was written then
  pub refused : (why : SettingsError) → result ≡ Err why → why ≢ Fault → IsRefused (image old) changes why × (new ≡ old)
  pub fault : result ≡ Err Fault → EndsInFault image faults operates (IsBetween (image old) changes) old new
  -- a flash that is healthy for so many operations stores the changes where there is room, and is healthy for all that it had left
  pub progress : (n : ℕ) → is_faultless old (n + few.count) → is_faultless new n × (IsAccepted (image old) changes → IsOk result)
