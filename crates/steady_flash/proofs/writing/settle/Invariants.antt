use Rattle.std.proofs.Common.{◌≡◌, ℕ}
use Rattle.steady_flash.specs.Marked.{OnePageOfPlaces}
use Rattle.steady_flash.specs.Sound.{IsCalm}
use Rattle.steady_flash.proofs.writing.settle.Given as goal

abbrev pub invariant-loop : goal.invariant-loop
invariant-loop g l = record {
  same_size : g.F.MarkedFlash.size l.flash ≡ g.F.MarkedFlash.size l.fn.flash;
  same_layout : l.layout ≡ l.fn.layout;
  calm : IsCalm (g.F.MarkedFlash.size l.fn.flash) (g.F.MarkedFlash.marks l.fn.flash) l.fn.layout → IsCalm (g.F.MarkedFlash.size l.fn.flash) (g.F.MarkedFlash.marks l.flash) l.layout;
  opened : (q : ℕ) → (q ≡ l.fn.layout.spare → ⊥) → g.F.MarkedFlash.marks l.flash q 0 ≡ g.F.MarkedFlash.marks l.fn.flash q 0;
  others : OnePageOfPlaces (g.F.MarkedFlash.slots l.fn.flash) l.fn.layout.spare (g.F.MarkedFlash.slots l.flash);
}
