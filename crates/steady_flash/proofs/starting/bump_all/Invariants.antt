use Rattle.std.proofs.Common.{◌≡◌, ◌+◌, ◌<◌, ◌≤◌, ℕ}
use Rattle.steady_flash.specs.Marked.{Same}
use Rattle.steady_flash.specs.Layout.{held_at, IsLaidOut}
use Rattle.steady_flash.specs.Claims.{IsSameOpen}
use Rattle.steady_flash.specs.Sound.{Standing, IsSound, IsFoundBy}
use Rattle.steady_flash.proofs.Bumping.{BumpedTo}
use Rattle.steady_flash.proofs.starting.bump_all.Given as goal

abbrev pub invariant-loop-behind : goal.invariant-loop-behind
invariant-loop-behind g l = record {
  same_size : g.F.MarkedFlash.size l.flash ≡ g.F.MarkedFlash.size l.fn.flash;
  laid_out : IsLaidOut (g.F.MarkedFlash.size l.fn.flash) l.layout;
  same_pages : l.layout.pages ≡ l.fn.layout.pages;
  healthy : g.F.MarkedFlash.is_healthy l.fn.flash → g.F.MarkedFlash.is_healthy l.flash;
  slots : Same (g.F.MarkedFlash.slots l.fn.flash) (g.F.MarkedFlash.slots l.flash);
  opened : IsSameOpen (g.F.MarkedFlash.marks l.fn.flash) (g.F.MarkedFlash.marks l.flash);
  same_places : (p : ℕ) → (held_at l.layout.held p).page ≡ (held_at l.fn.layout.held p).page;
  left : (p : ℕ) → p + l.behind < l.fn.layout.pages → held_at l.layout.held p ≡ held_at l.fn.layout.held p;
  bumped : (before : Standing) → IsSound (g.F.MarkedFlash.size l.fn.flash) (g.F.MarkedFlash.marks l.fn.flash) before → before.layout.pages ≡ l.fn.layout.pages → ((p : ℕ) → p < l.fn.layout.pages → IsFoundBy (g.F.MarkedFlash.marks l.fn.flash) before p (held_at l.fn.layout.held p)) → BumpedTo (g.F.MarkedFlash.size l.fn.flash) before (g.F.MarkedFlash.marks l.flash) l.layout l.fn.layout.pages l.behind;
  raised : (p : ℕ) → (held_at l.layout.held p).number ≤ (held_at l.fn.layout.held p).number + 2;
}
