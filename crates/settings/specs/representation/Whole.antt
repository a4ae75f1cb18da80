-- Representation: a step of a call that comes back when all is stored.
use Rattle.shapes.specs.Shapes.{Bytes}
use Rattle.std.specs.Prelude.{◌≡◌, ℕ, ◌+◌, ◌%◌, ◌^◌, ◌<◌, ◌≤◌, Bool, false, List, take}
use Rattle.flash_model.specs.FlashOperation.{FlashOperation}
use Rattle.page_turnover.specs.Steps.{Keeps}
use Rattle.page_turnover.specs.Turn.{target_page}
use Rattle.settings.specs.declared.change.Change.{Change}
use Rattle.settings.specs.declared.store.Job.{Job}
use Rattle.settings.specs.declared.store.Job.TheVariants.{Resting, Appending, Turning}
use Rattle.settings.specs.Settings.{settings_of, changed, Same}
use Rattle.settings.specs.Begins.{IsAppended}
use Rattle.settings.specs.Left.{Needs}
use Rattle.settings.specs.Moments.{IsOperation, AtEachMoment}
use Rattle.settings.specs.Places.{own_words, Adds, AreWritten}
use Rattle.settings.specs.Store.{SettingsValue, IsBusy}
use Rattle.settings.specs.Works.{IsBetween}
use Rattle.settings.specs.representation.Store.{Relation}

-- one operation is made, and fewer are left; none fails on a healthy flash
pub record Makes {F : Type 0} (image : F → Bytes) (operations : F → ℕ) (operates : F → FlashOperation → F → Type 0) (is_faultless : F → ℕ → Type 0)
    (changes : List Change) (failed : Bool) (before after : ℕ) (old new : F) : Type 0 where
  pub operation : IsOperation image operates (IsBetween (image old) changes) old new
  pub ends : IsBetween (image old) changes (image new)
  pub counted : operations new ≡ (operations old + 1) % 2 ^ 64
  pub fewer : after < before
  pub one : failed ≡ false → after + 1 ≡ before
  pub faultless : (n : ℕ) → is_faultless old (n + 1) → is_faultless new n × (failed ≡ false)

-- where changes are so far: some words of one that is appended, behind the words before; or the words are as before
abbrev pub WrittenSoFar : Bytes → List Change → Job → Bytes → Type 0
WrittenSoFar old changes Resting new = AreWritten old changes new
WrittenSoFar old changes (Appending at) new = IsAppended old changes × Adds old (take at (own_words changes)) new
WrittenSoFar old changes (Turning from at) new = (IsAppended old changes → ⊥) × Keeps old new × (target_page new ≡ target_page old)

-- so far: the values are as before while changes are under way, and else as after them
pub record SoFar {F : Type 0} (image : F → Bytes) (operations : F → ℕ) (operates : F → FlashOperation → F → Type 0) (is_faultless : F → ℕ → Type 0)
    (changes : List Change) (left : ℕ) (old : F) (settings : SettingsValue) (new : F) : Type 0 where
  pub refines : Relation (image new) changes settings
  pub kept : IsBusy settings.job → Same (settings_of (image new)) (settings_of (image old))
  pub stored : (IsBusy settings.job → ⊥) → Same (settings_of (image new)) (changed (image old) changes)
  pub moments : AtEachMoment image operates (IsBetween (image old) changes) old new
  pub ends : IsBetween (image old) changes (image new)
  pub written : WrittenSoFar (image old) changes settings.job (image new)
  pub needed : ℕ
  pub needs : Needs (image old) changes needed
  pub most : needed ≤ 513
  pub count : ℕ
  pub counted : operations new % 2 ^ 64 ≡ (operations old + count) % 2 ^ 64
  pub all : count + left ≡ needed
  pub faultless : (n : ℕ) → is_faultless old (n + count) → is_faultless new n
