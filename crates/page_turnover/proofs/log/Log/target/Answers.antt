use Rattle.std.proofs.Common.{sym}
use Rattle.page_turnover.proofs.Describing.{held_active, held_none, held_inside}
use Rattle.page_turnover.proofs.Turns.{target_page-some, target_page-none}
use Rattle.page_turnover.proofs.log.Log.target.Goals as goal

pub page_after-requires-clause-inside : goal.page_after-requires-clause-inside
page_after-requires-clause-inside g c =
    rw c.pages-pages.ensures.count (held_inside (g.F.NorFlash.image c.args.flash.now) c.args.self.now c.in-Some.active c.requires (rw (← c.self.view_is) c.in-Some.is))

pub returns-in-Some-clause-page : goal.returns-in-Some-clause-page
returns-in-Some-clause-page g c =
    let image = g.F.NorFlash.image c.args.flash.now in
    let a = c.in-Some.active in
    let h = held_active image c.args.self.now a c.requires (rw (← c.self.view_is) c.in-Some.is) in
    rw (c.page_after.ensures, c.pages-pages.ensures.count) (sym (target_page-some image a.page a.seq h.is_active))

pub returns-in-None-clause-page : goal.returns-in-None-clause-page
returns-in-None-clause-page g c =
    let image = g.F.NorFlash.image c.args.flash.now in
    sym (target_page-none image (held_none image c.args.self.now c.requires (rw (← c.self.view_is) c.in-None.is)))
