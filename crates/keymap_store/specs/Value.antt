-- Trusted where this crate is called: the parts of a store.
use Rattle.shapes.specs.Shapes.{KeyCodes}
use Rattle.page_turnover.specs.Value.{LogValue}
use Rattle.keymap_store.specs.declared.store.Job.{Job}

-- what a store holds: the log, the keymap, and what is under way
pub record StoreValue : Type 0 where
  pub log : LogValue
  pub keymap : KeyCodes
  pub job : Job
