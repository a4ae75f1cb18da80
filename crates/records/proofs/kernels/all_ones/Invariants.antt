use Rattle.std.proofs.Common.{◌≡◌, ◌-◌, ◌<◌, ◌≤◌, ℕ, List, length, slice_index}
use Rattle.records.proofs.Gathered.{Gathered}
use Rattle.records.proofs.kernels.all_ones.Given as goal

abbrev pub invariant-loop-i : goal.invariant-loop-i
invariant-loop-i l = Gathered l.bytes l.i l.all

abbrev pub decreases-loop-i : goal.decreases-loop-i
decreases-loop-i l = length l.bytes - l.i

-- each byte before i is FFh
pub record OnesSoFar (bytes : List ℕ) (i : ℕ) : Type 0 where
  pub within : i ≤ length bytes
  pub ones : (k : ℕ) → k < i → slice_index bytes k ≡ 255

abbrev pub invariant-loop-i-2 : goal.invariant-loop-i-2
invariant-loop-i-2 l = OnesSoFar l.bytes l.i

abbrev pub decreases-loop-i-2 : goal.decreases-loop-i-2
decreases-loop-i-2 l = length l.bytes - l.i
