use Rattle.std.proofs.Common.{◌∙◌, ◌-◌, sym, arith}
use Rattle.page_turnover.proofs.Describing.{held_active, held_none, held_inside, words_active, words_none_active}
use Rattle.page_turnover.proofs.WordLists.{words_from_first, words_free}
use Rattle.page_turnover.proofs.log.Log.words.Goals as goal

pub of_page-requires-clause-in_pages : goal.of_page-requires-clause-in_pages
of_page-requires-clause-in_pages g c = held_inside (g.F.NorFlash.image c.args.flash.now) c.args.self.now c.in-Some.active c.requires (rw (← c.self.view_is) c.in-Some.is)

pub of_page-requires-clause-in_page : goal.of_page-requires-clause-in_page
of_page-requires-clause-in_page g c = (held_active (g.F.NorFlash.image c.args.flash.now) c.args.self.now c.in-Some.active c.requires (rw (← c.self.view_is) c.in-Some.is)).is_tail.high

pub returns-in-Some : goal.returns-in-Some
returns-in-Some g c =
    let image = g.F.NorFlash.image c.args.flash.now in
    let a = c.in-Some.active in
    let h = held_active image c.args.self.now a c.requires (rw (← c.self.view_is) c.in-Some.is) in
    c.of_page.ensures ∙ words_from_first image a.page (a.tail - 1)
    ∙ sym (words_free image a.page (a.tail - 1) 511 (omega (arith, h.is_tail.high)) (λ s l m. h.is_tail.free s (omega arith) (omega arith)))
    ∙ sym (words_active image a.page a.seq h.is_active)

pub returns-in-None : goal.returns-in-None
returns-in-None g c =
    let image = g.F.NorFlash.image c.args.flash.now in
    c.none.ensures ∙ sym (words_none_active image (held_none image c.args.self.now c.requires (rw (← c.self.view_is) c.in-None.is)))
