use Rattle.std.proofs.Common.{◌≡◌, ◌+◌, ◌<◌, ◌≤◌, ℕ, List, slice_index}
use Rattle.settings_log.proofs.store.copy_three.Given as goal

-- so many of the bytes are copied
pub record SoFar (old new bytes : List ℕ) (at end k : ℕ) : Type 0 where
  pub here : (j : ℕ) → j < k → at + j < end → slice_index new (at + j) ≡ slice_index bytes j
  pub others : (j : ℕ) → (at ≤ j → j < end → at + k ≤ j) → slice_index new j ≡ slice_index old j

abbrev pub invariant-loop-k : goal.invariant-loop-k
invariant-loop-k l = SoFar l.fn.into l.into l.bytes l.at l.end l.k
