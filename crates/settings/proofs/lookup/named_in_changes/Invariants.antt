use Rattle.std.proofs.Common.{◌≡◌, ◌≤◌, ◌<◌, ℕ, length, List, Option, None}
use Rattle.settings.specs.Settings.{after}
use Rattle.settings.proofs.lookup.named_in_changes.Given as goal

-- no id from one on and below the best so far was named
pub record NotNamed (from best most : ℕ) (left total : ℕ → Option (List ℕ)) : Type 0 where
  pub after : from ≤ best
  pub lower : best ≤ most
  pub same : (id : ℕ) → from ≤ id → id < best → left id ≡ total id

abbrev pub invariant-loop-rest : goal.invariant-loop-rest
invariant-loop-rest l = NotNamed l.from l.best l.fn.best (λ id. after None l.rest id) (λ id. after None l.changes id)

abbrev pub decreases-loop-rest : goal.decreases-loop-rest
decreases-loop-rest l = length l.rest
