use Rattle.std.proofs.Common.{◌≡◌, List, ◌+◌, ◌<◌, ◌≤◌, ℕ, slice_index, bit_and, bit_or}
use Rattle.std.specs.Int.{bit_not, w8}
use Rattle.flash_model.specs.ByMask.{mask_byte}
use Rattle.flash_model.proofs.masks.clear.Given as goal

-- what lies below is cleared, and what lies above or before stays
pub record SoFar (old : List ℕ) (at : ℕ) (with mask : List ℕ) (i : ℕ) (now : List ℕ) : Type 0 where
  pub changed : (k : ℕ) → k < i → slice_index now (at + k) ≡ bit_and (slice_index old (at + k)) (bit_or (slice_index with k) (bit_not w8 (mask_byte mask k)))
  pub kept : (j : ℕ) → (at ≤ j → j < at + i → ⊥) → slice_index now j ≡ slice_index old j

abbrev pub invariant-loop-k : goal.invariant-loop-k
invariant-loop-k l = SoFar l.fn.image l.at l.with l.mask l.k l.image
