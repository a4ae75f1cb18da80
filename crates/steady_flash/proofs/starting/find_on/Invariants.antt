use Rattle.std.proofs.Common.{◌≡◌}
use Rattle.steady_flash.specs.Layout.{IsPlaced}
use Rattle.steady_flash.specs.Claims.{IsClaimed, IsFoundTo}
use Rattle.steady_flash.specs.Told.{IsReadTo}
use Rattle.steady_flash.specs.Sound.{HasRead}
use Rattle.steady_flash.specs.declared.layout.Layout.{Layout}
use Rattle.steady_flash.proofs.starting.find_on.Given as goal

abbrev pub invariant-loop-index : goal.invariant-loop-index
invariant-loop-index g l = record {
  placed : IsPlaced (g.F.MarkedFlash.size l.flash) l.layout;
  same_pages : l.layout.pages ≡ l.fn.layout.pages;
  found : (before : Layout) → IsClaimed (g.F.MarkedFlash.size l.flash) (g.F.MarkedFlash.marks l.flash) before → IsFoundTo before l.fn.layout l.at 0 → IsFoundTo before l.layout l.at l.index;
  read : IsReadTo (g.F.MarkedFlash.size l.flash).triples (g.F.MarkedFlash.marks l.flash) l.fn.layout l.at 0 → IsReadTo (g.F.MarkedFlash.size l.flash).triples (g.F.MarkedFlash.marks l.flash) l.layout l.at l.index;
  reads : HasRead (g.F.MarkedFlash.size l.flash) (g.F.MarkedFlash.marks l.flash) l.fn.layout l.at 0 → HasRead (g.F.MarkedFlash.size l.flash) (g.F.MarkedFlash.marks l.flash) l.layout l.at l.index;
}
