-- Trusted: what is known of a simulated flash.
use Rattle.shapes.specs.Shapes.{Bytes}
use Rattle.std.specs.Prelude.{ℕ, Option, Bool, nat_eq}
use Rattle.std.specs.Option.{option_eq}
use Rattle.std.specs.Ordering.{on, eq_of_both}
use Rattle.std.specs.Cmp.Lexicographic.{pointwise}

-- a simulated flash: its bytes, the mask that the next operation is torn by, and how many operations were made and how
-- many of them were torn
pub record SimValue : Type 0 where
  pub image : Bytes
  pub armed : Option Bytes
  pub operations : ℕ
  pub faults : ℕ

-- two are equal where all four are
abbrev pub sim_eq : SimValue → SimValue → Bool
sim_eq =
    eq_of_both (on (λ f. f.image) (pointwise nat_eq))
    (eq_of_both (on (λ f. f.armed) (option_eq (pointwise nat_eq)))
    (eq_of_both (on (λ f. f.operations) nat_eq) (on (λ f. f.faults) nat_eq)))
