use Rattle.page_turnover.proofs.GoodSlots.{good_first}
use Rattle.page_turnover.proofs.words.Words.of_page.Goals as goal

pub invariant_of-result : goal.invariant_of-result
invariant_of-result g c = (c.requires.in_pages, c.requires.in_page, good_first (g.F.NorFlash.image c.args.flash.now) c.args.page c.good_in_block-good.result c.good_in_block-good.ensures)
