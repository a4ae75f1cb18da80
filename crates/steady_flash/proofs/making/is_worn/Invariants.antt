use Rattle.std.proofs.Common.{◌≤◌, ◌<◌, ℕ}
use Rattle.steady_flash.specs.Layout.{held_at}
use Rattle.steady_flash.proofs.making.is_worn.Given as goal

abbrev pub invariant-loop-page : goal.invariant-loop-page
invariant-loop-page l = (p : ℕ) → p < l.page → (held_at l.layout.held p).number ≤ 2096127
