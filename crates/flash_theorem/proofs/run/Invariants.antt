use Rattle.std.proofs.Common.{◌≡◌, ◌++◌, ℕ, List, length}
use Rattle.keyboard.specs.Calls.{Call, image_after}
use Rattle.keyboard.specs.Progress.{AreWhole}
use Rattle.keyboard.specs.representation.Relation.{Refines}
use Rattle.keyboard.specs.representation.Value.{RunsOn}
use Rattle.flash_theorem.proofs.run.Given as goal

abbrev pub invariant-loop-step : goal.invariant-loop-step
invariant-loop-step g l = record {
  runs_on : RunsOn g.D.Defaults.defaults (g.F.NorFlash.image l.flash) l.keyboard;
  whole : (start : List ℕ) (past : List Call) → Refines g.D.Defaults.defaults start past l.fn.keyboard → image_after start past ≡ g.F.NorFlash.image l.fn.flash → ((n : ℕ) → g.F.NorFlash.is_faultless l.fn.flash n)
      → (worked : List Call) × AreWhole worked × (length worked ≡ l.step) × ((n : ℕ) → g.F.NorFlash.is_faultless l.flash n) × Refines g.D.Defaults.defaults start (worked ++ past) l.keyboard × (image_after start (worked ++ past) ≡ g.F.NorFlash.image l.flash);
}
