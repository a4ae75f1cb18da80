use Rattle.std.proofs.Common.{◌≡◌, ◌<◌, ◌≤◌, ◌/◌, ℕ, false}
use Rattle.layers.specs.Usages.{has_bit}
use Rattle.layers.proofs.bits.next_member.Given as goal

abbrev pub invariant-loop-place : goal.invariant-loop-place
invariant-loop-place l = (other : ℕ) → l.from ≤ other → other / 32 < l.place → has_bit 32 l.words other ≡ false
