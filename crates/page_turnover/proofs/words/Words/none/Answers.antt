use Rattle.std.proofs.Common.{arith}
use Rattle.page_turnover.proofs.WordLists.{words_after_end}
use Rattle.page_turnover.proofs.words.Words.none.Goals as goal

pub returns : goal.returns
returns g c = words_after_end (g.F.NorFlash.image c.args.flash.now) 0 0 0 (omega arith)
