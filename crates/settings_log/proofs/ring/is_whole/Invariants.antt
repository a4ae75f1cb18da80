use Rattle.std.proofs.Common.{◌<◌, ℕ, List, Option}
use Rattle.std.specs.Prelude.{IsSomeAnd}
use Rattle.records.specs.Slots.{IsSound}
use Rattle.flash_model.specs.Image.{slot_at}
use Rattle.settings_log.specs.Pages.{IsLost}
use Rattle.settings_log.proofs.ring.is_whole.Given as goal

-- the pages so far are sound, and as many before the newest are not lost
pub record SoFar (image : List ℕ) (newest : Option ℕ) (at : ℕ) : Type 0 where
  pub sound : (p : ℕ) → p < at → IsSound (slot_at image p 0)
  pub kept : (b : ℕ) → b < at → IsSomeAnd newest (λ n. IsLost image n b) → ⊥

abbrev pub invariant-loop-at : goal.invariant-loop-at
invariant-loop-at g l = SoFar (g.F.NorFlash.image l.flash) l.newest l.at
