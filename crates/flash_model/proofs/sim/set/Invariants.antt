use Rattle.std.proofs.Common.{◌≡◌, List, ◌+◌, ◌<◌, ◌≤◌, ℕ, slice_index}
use Rattle.flash_model.proofs.sim.set.Given as goal

-- what lies below is set, and what lies above or before stays
pub record SoFar (old : List ℕ) (at : ℕ) (i : ℕ) (now : List ℕ) : Type 0 where
  pub changed : (k : ℕ) → k < i → slice_index now (at + k) ≡ 255
  pub kept : (j : ℕ) → (at ≤ j → j < at + i → ⊥) → slice_index now j ≡ slice_index old j

abbrev pub invariant-loop-k : goal.invariant-loop-k
invariant-loop-k l = SoFar l.fn.image l.at l.k l.image
