-- Representation: the next number of a set, which the code looks for.
use Rattle.std.specs.Prelude.{◌≡◌, ℕ, ◌<◌, ◌≤◌, Bool, true, false, Option, MatchOption}

-- u is the least number from `from` to `last` that passes
pub record IsNext (test : ℕ → Bool) (from last u : ℕ) : Type 0 where
  pub after : from ≤ u
  pub within : u ≤ last
  pub is : test u ≡ true
  pub first : (v : ℕ) → from ≤ v → v < u → test v ≡ false

-- no number from `from` to `last` passes
pub record NonePasses (test : ℕ → Bool) (from last : ℕ) : Type 0 where
  pub each : (v : ℕ) → from ≤ v → v ≤ last → test v ≡ false

-- that number, or that there is none
abbrev pub FindsNext : (ℕ → Bool) → ℕ → ℕ → Option ℕ → Type 0
FindsNext test from last found = MatchOption found (NonePasses test from last) (λ u. IsNext test from last u)
