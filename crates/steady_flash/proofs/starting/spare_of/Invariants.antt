use Rattle.std.proofs.Common.{◌<◌, ℕ}
use Rattle.steady_flash.specs.Claims.{IsUnheld}
use Rattle.steady_flash.proofs.starting.spare_of.Given as goal

abbrev pub invariant-loop-page : goal.invariant-loop-page
invariant-loop-page l = (q : ℕ) → q < l.page → IsUnheld l.layout q → ⊥
