-- Trusted: the operations of a call on a flash that is healthy for so many.
use Rattle.std.specs.Prelude.{◌≡◌, ℕ, ◌+◌, ◌%◌, ◌^◌, ◌≤◌}

-- so many operations were made, and a flash that was healthy for them is so for all that it had left
pub record UsesAtMost {F : Type 0} (operations : F → ℕ) (is_faultless : F → ℕ → Type 0) (most : ℕ) (old new : F) : Type 0 where
  pub made : ℕ
  pub few : made ≤ most
  pub counted : operations new % 2 ^ 64 ≡ (operations old + made) % 2 ^ 64
  pub healthy : (n : ℕ) → is_faultless old (n + made) → is_faultless new n
