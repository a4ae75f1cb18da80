use Rattle.std.proofs.Common.{◌≡◌, ◌<◌, ◌≤◌, ℕ}
use Rattle.steady_flash.specs.Cells.{erased}
use Rattle.steady_flash.specs.Claims.{IsOpenTold}
use Rattle.steady_flash.proofs.making.begin_pages.Given as goal

abbrev pub invariant-loop-at : goal.invariant-loop-at
invariant-loop-at g l = record {
  same_size : g.F.MarkedFlash.size l.flash ≡ g.F.MarkedFlash.size l.fn.flash;
  healthy : g.F.MarkedFlash.is_healthy l.fn.flash → g.F.MarkedFlash.is_healthy l.flash;
  others : (q m : ℕ) → (m ≡ 0 → ⊥) → g.F.MarkedFlash.marks l.flash q m ≡ g.F.MarkedFlash.marks l.fn.flash q m;
  left : (q : ℕ) → l.at ≤ q → g.F.MarkedFlash.marks l.flash q 0 ≡ g.F.MarkedFlash.marks l.fn.flash q 0;
  told : ((q : ℕ) → q < l.fn.pages → g.F.MarkedFlash.marks l.fn.flash q 0 ≡ erased) → (q : ℕ) → q < l.at → IsOpenTold (g.F.MarkedFlash.marks l.flash) (g.F.MarkedFlash.slots l.flash) q;
}
