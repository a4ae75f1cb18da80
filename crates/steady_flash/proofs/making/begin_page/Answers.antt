use Rattle.steady_flash.specs.Moves.{IsTorn}
use Rattle.steady_flash.specs.Sound.{zeros}
use Rattle.steady_flash.proofs.Beginning.{if_ok, zeros_told, erased_told, some_zeros}
use Rattle.steady_flash.proofs.Cells.{torn_erased}
use Rattle.steady_flash.proofs.Shows.{ok_from}
use Rattle.steady_flash.proofs.Soundness.{zeros_eight}
use Rattle.steady_flash.proofs.making.begin_page.Goals as goal

pub returns-then-keeps-clause-told : goal.returns-then-keeps-clause-told
returns-then-keeps-clause-told g c = λ e.
    let torn : IsTorn zeros (g.F.MarkedFlash.marks c.args.flash.now c.args.at 0) = rw e (torn_erased zeros zeros_eight) in
    ok_from c.program_mark.result _ _ _ (c.program_mark.ensures.outcome torn some_zeros) (λ _ m. zeros_told (g.F.MarkedFlash.marks c.program_mark.new.flash) (g.F.MarkedFlash.slots c.program_mark.new.flash) c.args.at m)

pub returns-else-keeps-clause-told : goal.returns-else-keeps-clause-told
returns-else-keeps-clause-told g c = λ e. if_ok c.erase_slots.result _ _ (λ _ m. erased_told (g.F.MarkedFlash.marks c.erase_slots.new.flash) (g.F.MarkedFlash.slots c.erase_slots.new.flash) c.args.at m) c.erase_slots.ensures.outcome
