use Rattle.std.proofs.Common.{◌≡◌, List, ◌+◌, ◌<◌, ◌≤◌, ℕ, slice_index, bit_and}
use Rattle.flash_model.proofs.sim.clear.Given as goal

-- what lies below is cleared, and what lies above or before stays
pub record SoFar (old : List ℕ) (at : ℕ) (with : List ℕ) (i : ℕ) (now : List ℕ) : Type 0 where
  pub changed : (k : ℕ) → k < i → slice_index now (at + k) ≡ bit_and (slice_index old (at + k)) (slice_index with k)
  pub kept : (j : ℕ) → (at ≤ j → j < at + i → ⊥) → slice_index now j ≡ slice_index old j

abbrev pub invariant-loop-k : goal.invariant-loop-k
invariant-loop-k l = SoFar l.fn.image l.at l.with l.k l.image
