use Rattle.std.proofs.Common.{◌∙◌, ◌<◌, sym, subst, arith}
use Rattle.flash_model.specs.Image.{page_count}
use Rattle.flash_theorem.specs.Interrupted.{Interruption, shows}
use Rattle.flash_theorem.proofs.Shown.{in_none}
use Rattle.flash_theorem.proofs.Torn.{slot_at-take}
use Rattle.flash_theorem.proofs.interrupted.InterruptedNorFlash.read_slot.Goals as goal

pub returns-in-None : goal.returns-in-None
returns-in-None g c =
    let asked = subst (λ (s : Interruption g.row.F.Denot). c.args.page < page_count (shows g.F.NorFlash.image s.flash s.before)) (sym c.self.view_is) c.requires.in_pages in
    let there = in_none g.F.NorFlash.image c.self.inside.flash _ c.args.page c.self.inside.pages c.in-None.is c.self.invariant.1 asked in
    rw (← c.self.view_is, c.in-None.is) (c.slot_of.ensures ∙ sym (slot_at-take _ _ _ _ (omega (arith, there, c.requires.in_page))))
