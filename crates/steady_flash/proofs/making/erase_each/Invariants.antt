use Rattle.std.proofs.Common.{◌≡◌, ℕ, ◌<◌, ◌≤◌}
use Rattle.steady_flash.specs.Layout.{held_at, IsLaidOut}
use Rattle.steady_flash.specs.Moves.{IsErasedPage}
use Rattle.steady_flash.proofs.making.erase_each.Given as goal

abbrev pub invariant-loop-page : goal.invariant-loop-page
invariant-loop-page g l = record {
  same_size : g.F.MarkedFlash.size l.flash ≡ g.F.MarkedFlash.size l.fn.flash;
  laid_out : IsLaidOut (g.F.MarkedFlash.size l.fn.flash) l.layout;
  same_pages : l.layout.pages ≡ l.fn.layout.pages;
  healthy : g.F.MarkedFlash.is_healthy l.fn.flash → g.F.MarkedFlash.is_healthy l.flash;
  fresh : (p : ℕ) → l.page ≤ p → p < l.layout.pages → (held_at l.layout.held p).number ≤ 2096127;
  blank_there : (p : ℕ) → p < l.page → IsErasedPage (g.F.MarkedFlash.slots l.flash) (held_at l.layout.held p).page;
}
