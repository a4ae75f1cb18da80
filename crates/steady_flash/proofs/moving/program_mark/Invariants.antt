use Rattle.std.proofs.Common.{◌≡◌}
use Rattle.steady_flash.specs.Marked.{Same, OnePlace}
use Rattle.flash_model.specs.Torn.{Within}
use Rattle.steady_flash.specs.Cells.{blank}
use Rattle.steady_flash.specs.Claims.{IsMarked}
use Rattle.steady_flash.specs.Moves.{IsTorn}
use Rattle.steady_flash.proofs.moving.program_mark.Given as goal

abbrev pub invariant-loop-tried : goal.invariant-loop-tried
invariant-loop-tried g l = record {
  same_size : g.F.MarkedFlash.size l.flash ≡ g.F.MarkedFlash.size l.fn.flash;
  slots : Same (g.F.MarkedFlash.slots l.fn.flash) (g.F.MarkedFlash.slots l.flash);
  healthy : g.F.MarkedFlash.is_healthy l.fn.flash → (l._tried ≡ 0) × g.F.MarkedFlash.is_healthy l.flash;
  marks : OnePlace (g.F.MarkedFlash.marks l.fn.flash) l.at l.mark (g.F.MarkedFlash.marks l.flash);
  torn : IsTorn l.bytes (g.F.MarkedFlash.marks l.fn.flash l.at l.mark) → IsTorn l.bytes (g.F.MarkedFlash.marks l.flash l.at l.mark);
  whole : IsMarked l.bytes (g.F.MarkedFlash.marks l.fn.flash l.at l.mark) → IsMarked l.bytes (g.F.MarkedFlash.marks l.flash l.at l.mark);
  clear : IsTorn l.bytes (g.F.MarkedFlash.marks l.fn.flash l.at l.mark) → Within blank (g.F.MarkedFlash.marks l.flash l.at l.mark).cells.most → Within blank (g.F.MarkedFlash.marks l.fn.flash l.at l.mark).cells.most;
}
