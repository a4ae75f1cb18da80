use Rattle.std.proofs.Common.{◌≡◌, ◌<◌, ℕ}
use Rattle.steady_flash.specs.Layout.{held_at}
use Rattle.steady_flash.proofs.starting.is_held.Given as goal

abbrev pub invariant-loop-page : goal.invariant-loop-page
invariant-loop-page l = (p : ℕ) → p < l.page → 0 < (held_at l.layout.held p).number → (held_at l.layout.held p).page ≡ l.at → ⊥
