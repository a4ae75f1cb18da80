-- Representation: what loops over pages know.
use Rattle.shapes.specs.Shapes.{Bytes}
use Rattle.std.specs.Prelude.{◌≡◌, ℕ, ◌<◌, ◌≤◌, ◌⊎◌, Option, None, MatchOption, IfSome}
use Rattle.settings_log.specs.Pages.{number_at, IsGreatest}

-- the greatest number of the first pages, if any has one
abbrev pub IsBest : Bytes → ℕ → Option ℕ → Type 0
IsBest image pages best = MatchOption best ((p : ℕ) → p < pages → number_at image p ≡ None) (λ number. IsGreatest image pages number)

-- the greater one of two numbers
pub record IsLater (best number result : Option ℕ) : Type 0 where
  pub one : (result ≡ best) ⊎ (result ≡ number)
  pub first : IfSome best (λ a. IfSome result (λ r. a ≤ r))
  pub second : IfSome number (λ b. IfSome result (λ r. b ≤ r))
  pub none : result ≡ None → (best ≡ None) × (number ≡ None)
