use Rattle.std.proofs.Common.{◌≡◌, arith, refl}
use Rattle.reports.specs.Poll.{size_of}
use Rattle.reports.specs.declared.Input.{Input}
use Rattle.reports.specs.declared.Input.TheVariants.{Boot, One, Two}

-- no two reports have the same length
pub one-length : (a b : Input) → size_of a ≡ size_of b → a ≡ b
one-length Boot Boot e = refl
one-length Boot One e = absurd (omega (arith, e))
one-length Boot Two e = absurd (omega (arith, e))
one-length One Boot e = absurd (omega (arith, e))
one-length One One e = refl
one-length One Two e = absurd (omega (arith, e))
one-length Two Boot e = absurd (omega (arith, e))
one-length Two One e = absurd (omega (arith, e))
one-length Two Two e = refl
