use Rattle.std.proofs.Common.{◌≡◌, ◌<◌, ℕ, Some}
use Rattle.ecc_flash.specs.Reading.{blank}
use Rattle.ecc_flash.proofs.paired.is_erased.Given as goal

abbrev pub invariant-loop-unit : goal.invariant-loop-unit
invariant-loop-unit g l = (u : ℕ) → u < l.unit → (g.F.EccFlash.units l.flash l.page u).reads ≡ Some blank
