-- Trusted where this crate is called: the parts of settings in flash, and whether changes are under way.
use Rattle.page_turnover.specs.Value.{LogValue}
use Rattle.settings.specs.declared.store.Job.{Job}
use Rattle.settings.specs.declared.store.Job.TheVariants.{Resting, Appending, Turning}

-- what settings hold: the log, and what is under way
pub record SettingsValue : Type 0 where
  pub log : LogValue
  pub job : Job

-- changes are under way
abbrev pub IsBusy : Job → Type 0
IsBusy Resting = ⊥
IsBusy (Appending at) = Unit {0}
IsBusy (Turning from at) = Unit {0}

-- they take a compaction
abbrev pub TakesTurn : Job → Type 0
TakesTurn Resting = ⊥
TakesTurn (Appending at) = ⊥
TakesTurn (Turning from at) = Unit {0}
