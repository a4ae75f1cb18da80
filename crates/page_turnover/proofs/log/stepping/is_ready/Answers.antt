use Rattle.page_turnover.proofs.Blanks.{blank_test}
use Rattle.page_turnover.proofs.log.stepping.is_ready.Goals as goal

pub returns-in-Unread : goal.returns-in-Unread
returns-in-Unread g c =
    rw (c.in-Unread.is, ← c.requires.is_target) (blank_test (g.F.NorFlash.image c.args.flash.now) c.args.page c.is_blank.result c.is_blank.ensures)
