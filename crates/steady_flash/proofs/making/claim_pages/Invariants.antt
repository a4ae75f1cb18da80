use Rattle.std.proofs.Common.{◌≡◌, ◌≤◌, ℕ}
use Rattle.steady_flash.specs.Marked.{Same}
use Rattle.steady_flash.specs.Claims.{IsSameOpen}
use Rattle.steady_flash.proofs.making.claim_pages.Given as goal

abbrev pub invariant-loop-page : goal.invariant-loop-page
invariant-loop-page g l = record {
  same_size : g.F.MarkedFlash.size l.flash ≡ g.F.MarkedFlash.size l.fn.flash;
  healthy : g.F.MarkedFlash.is_healthy l.fn.flash → g.F.MarkedFlash.is_healthy l.flash;
  slots : Same (g.F.MarkedFlash.slots l.fn.flash) (g.F.MarkedFlash.slots l.flash);
  opened : IsSameOpen (g.F.MarkedFlash.marks l.fn.flash) (g.F.MarkedFlash.marks l.flash);
  others : (q m : ℕ) → l.fn.pages ≤ q → g.F.MarkedFlash.marks l.flash q m ≡ g.F.MarkedFlash.marks l.fn.flash q m;
}
