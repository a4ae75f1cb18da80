use Rattle.std.proofs.Common.{◌≡◌, ◌<◌, ℕ}
use Rattle.steady_flash.specs.Layout.{held_at}
use Rattle.steady_flash.proofs.starting.is_doubled.Given as goal

abbrev pub invariant-loop-other : goal.invariant-loop-other
invariant-loop-other l = (p : ℕ) → p < l.other → (held_at l.layout.held p).page ≡ l.at → ⊥
