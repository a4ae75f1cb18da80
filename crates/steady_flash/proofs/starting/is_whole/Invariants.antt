use Rattle.std.proofs.Common.{◌≡◌, ◌<◌, ◌≤◌, ℕ}
use Rattle.steady_flash.specs.Layout.{held_at}
use Rattle.steady_flash.proofs.starting.is_whole.Given as goal

abbrev pub invariant-loop-page : goal.invariant-loop-page
invariant-loop-page l = record {
  numbered : (p : ℕ) → p < l.page → 1 ≤ (held_at l.layout.held p).number;
  apart : (p q : ℕ) → p < q → q < l.page → (held_at l.layout.held p).page ≡ (held_at l.layout.held q).page → ⊥;
}
