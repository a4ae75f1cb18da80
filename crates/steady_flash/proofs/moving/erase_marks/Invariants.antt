use Rattle.std.proofs.Common.{◌≡◌, ◌*◌, ◌≤◌, ℕ}
use Rattle.steady_flash.specs.Sound.{IsNoNewer}
use Rattle.steady_flash.specs.Marked.{Same, OnePageOfPlaces}
use Rattle.steady_flash.proofs.moving.erase_marks.Given as goal

abbrev pub invariant-loop-tried : goal.invariant-loop-tried
invariant-loop-tried g l = record {
  same_size : g.F.MarkedFlash.size l.flash ≡ g.F.MarkedFlash.size l.fn.flash;
  slots : Same (g.F.MarkedFlash.slots l.fn.flash) (g.F.MarkedFlash.slots l.flash);
  healthy : g.F.MarkedFlash.is_healthy l.fn.flash → (l._tried ≡ 0) × g.F.MarkedFlash.is_healthy l.flash;
  no_newer : (m : ℕ) → m ≤ 3 * (g.F.MarkedFlash.size l.fn.flash).triples → IsNoNewer (g.F.MarkedFlash.marks l.fn.flash l.at m) (g.F.MarkedFlash.marks l.flash l.at m);
  marks : OnePageOfPlaces (g.F.MarkedFlash.marks l.fn.flash) l.at (g.F.MarkedFlash.marks l.flash);
}
