use Rattle.std.proofs.Common.{◌≡◌}
use Rattle.steady_flash.specs.Marked.{Same, OnePlace}
use Rattle.steady_flash.specs.Cells.{erased}
use Rattle.steady_flash.specs.Moves.{IsTorn}
use Rattle.steady_flash.proofs.moving.program_slot.Given as goal

abbrev pub invariant-loop-tried : goal.invariant-loop-tried
invariant-loop-tried g l = record {
  same_size : g.F.MarkedFlash.size l.flash ≡ g.F.MarkedFlash.size l.fn.flash;
  others : OnePlace (g.F.MarkedFlash.slots l.fn.flash) l.at l.slot (g.F.MarkedFlash.slots l.flash);
  torn : g.F.MarkedFlash.slots l.fn.flash l.at l.slot ≡ erased → IsTorn l.bytes (g.F.MarkedFlash.slots l.flash l.at l.slot);
  healthy : g.F.MarkedFlash.is_healthy l.fn.flash → (l._tried ≡ 0) × g.F.MarkedFlash.is_healthy l.flash;
  marks : Same (g.F.MarkedFlash.marks l.fn.flash) (g.F.MarkedFlash.marks l.flash);
}
