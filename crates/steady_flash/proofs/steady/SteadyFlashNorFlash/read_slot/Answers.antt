use Rattle.std.proofs.Common.{sym, ◌<◌, ◌∙◌}
use Rattle.steady_flash.proofs.Doubts.{count_as, slot_as}
use Rattle.steady_flash.proofs.steady.SteadyFlashNorFlash.read_slot.Goals as goal

pub returns : goal.returns
returns g c =
    let b : c.args.page < c.args.self.now.layout.pages = rw (count_as (g.F.MarkedFlash.slots c.args.self.now.flash) c.args.self.now.layout c.args.self.now.in_doubt) at c.requires.in_pages in
    c.read.ensures b c.requires.in_page ∙ sym (slot_as (g.F.MarkedFlash.slots c.args.self.now.flash) c.args.self.now.layout c.args.self.now.in_doubt c.args.page c.args.slot c.args.self.now.settled b c.requires.in_page)
