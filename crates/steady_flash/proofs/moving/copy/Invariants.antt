use Rattle.std.proofs.Common.{◌≡◌, ◌<◌, ◌≤◌, ℕ}
use Rattle.steady_flash.specs.Marked.{Same, OnePageOfPlaces}
use Rattle.steady_flash.specs.Cells.{erased}
use Rattle.steady_flash.specs.Moves.{IsErasedPage, IsCopiedTo}
use Rattle.steady_flash.proofs.moving.copy.Given as goal

abbrev pub invariant-loop-slot : goal.invariant-loop-slot
invariant-loop-slot g l = record {
  same_size : g.F.MarkedFlash.size l.flash ≡ g.F.MarkedFlash.size l.fn.flash;
  others : OnePageOfPlaces (g.F.MarkedFlash.slots l.fn.flash) l.to (g.F.MarkedFlash.slots l.flash);
  copied : (l.from ≡ l.to → ⊥) → IsErasedPage (g.F.MarkedFlash.slots l.fn.flash) l.to → (s : ℕ) → s < l.slot → IsCopiedTo (g.F.MarkedFlash.slots l.fn.flash l.from s) l.changed s (g.F.MarkedFlash.slots l.flash l.to s);
  left : IsErasedPage (g.F.MarkedFlash.slots l.fn.flash) l.to → (s : ℕ) → l.slot ≤ s → s < 512 → g.F.MarkedFlash.slots l.flash l.to s ≡ erased;
  healthy : g.F.MarkedFlash.is_healthy l.fn.flash → g.F.MarkedFlash.is_healthy l.flash;
  marks : Same (g.F.MarkedFlash.marks l.fn.flash) (g.F.MarkedFlash.marks l.flash);
}
