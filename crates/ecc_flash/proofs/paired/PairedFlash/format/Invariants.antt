use Rattle.std.proofs.Common.{◌≡◌, ◌<◌, ℕ, Some}
use Rattle.ecc_flash.specs.Reading.{blank}
use Rattle.ecc_flash.proofs.paired.PairedFlash.format.Given as goal

abbrev pub invariant-loop-page : goal.invariant-loop-page
invariant-loop-page g l = record {
  pages : l.pages ≡ g.F.EccFlash.page_total l.flash;
  erased : (p u : ℕ) → p < l.page → u < 1024 → (g.F.EccFlash.units l.flash p u).reads ≡ Some blank;
  healthy : g.F.EccFlash.is_healthy l.fn.flash → g.F.EccFlash.is_healthy l.flash;
}
