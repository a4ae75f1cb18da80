use Rattle.page_turnover.proofs.Kept.{erased_free}
use Rattle.page_turnover.proofs.Making.{erase_read}
use Rattle.page_turnover.proofs.attempt.erase.Goals as goal

pub returns-in-Ok-clause-made : goal.returns-in-Ok-clause-made
returns-in-Ok-clause-made g c =
    let new = g.F.NorFlash.image c.erase_page.new.self in
    (c.in-Ok.ensures.outcome, λ s a l. erased_free (g.F.NorFlash.image c.args.flash.now) c.args.page new s l c.in-Ok.ensures.outcome)

pub returns-in-Err-clause-made : goal.returns-in-Err-clause-made
returns-in-Err-clause-made g c =
    erase_read (g.F.NorFlash.image c.args.flash.now) (g.F.NorFlash.image c.erase_page.new.self) c.args.page c.is_blank.result
    c.is_blank.ensures c.in-Err.ensures.whole c.requires c.in-Err.ensures.outcome
