use Rattle.std.proofs.Common.{◌≡◌, ◌<◌, ◌≤◌, ℕ}
use Rattle.steady_flash.specs.Layout.{held_at, IsLaidOut}
use Rattle.steady_flash.specs.Claims.{IsOpenTold, IsSettledPage, IsUntouched}
use Rattle.steady_flash.specs.Sound.{IsCalm, Shrinks, steady_at}
use Rattle.steady_flash.proofs.starting.settle_opened.Given as goal

abbrev pub invariant-loop-page : goal.invariant-loop-page
invariant-loop-page g l = record {
  same_size : g.F.MarkedFlash.size l.flash ≡ g.F.MarkedFlash.size l.fn.flash;
  laid_out : IsLaidOut (g.F.MarkedFlash.size l.fn.flash) l.layout;
  same_pages : l.layout.pages ≡ l.fn.layout.pages;
  healthy : g.F.MarkedFlash.is_healthy l.fn.flash → g.F.MarkedFlash.is_healthy l.flash;
  settled : (p : ℕ) → p < l.page → IsOpenTold (g.F.MarkedFlash.marks l.fn.flash) (g.F.MarkedFlash.slots l.fn.flash) (held_at l.fn.layout.held p).page → IsSettledPage (g.F.MarkedFlash.slots l.fn.flash) (held_at l.fn.layout.held p).page (g.F.MarkedFlash.slots l.flash) l.layout p;
  left : (p : ℕ) → l.page ≤ p → p < l.fn.layout.pages → IsUntouched (g.F.MarkedFlash.marks l.fn.flash) (g.F.MarkedFlash.slots l.fn.flash) l.fn.layout (g.F.MarkedFlash.marks l.flash) (g.F.MarkedFlash.slots l.flash) l.layout p;
  sound : IsCalm (g.F.MarkedFlash.size l.fn.flash) (g.F.MarkedFlash.marks l.fn.flash) l.fn.layout → IsCalm (g.F.MarkedFlash.size l.fn.flash) (g.F.MarkedFlash.marks l.flash) l.layout × Shrinks (g.F.MarkedFlash.size l.fn.flash) (steady_at l.fn.layout) (g.F.MarkedFlash.marks l.fn.flash) (g.F.MarkedFlash.slots l.fn.flash) (steady_at l.layout) (g.F.MarkedFlash.marks l.flash) (g.F.MarkedFlash.slots l.flash);
  numbers : (p : ℕ) → l.page ≤ p → (held_at l.layout.held p).number ≡ (held_at l.fn.layout.held p).number;
}
