use Rattle.std.proofs.Common.{◌≡◌, ◌<◌, ℕ}
use Rattle.steady_flash.specs.Claims.{IsErasedMarks}
use Rattle.steady_flash.proofs.making.erase_all_marks.Given as goal

abbrev pub invariant-loop-at : goal.invariant-loop-at
invariant-loop-at g l = record {
  same_size : g.F.MarkedFlash.size l.flash ≡ g.F.MarkedFlash.size l.fn.flash;
  healthy : g.F.MarkedFlash.is_healthy l.fn.flash → g.F.MarkedFlash.is_healthy l.flash;
  erased : (q : ℕ) → q < l.at → IsErasedMarks (g.F.MarkedFlash.marks l.flash) (g.F.MarkedFlash.size l.fn.flash).triples q;
}
