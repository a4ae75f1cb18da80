use Rattle.std.proofs.Common.{sym}
use Rattle.page_turnover.proofs.Describing.{held_none}
use Rattle.page_turnover.proofs.Headers.{format-none}
use Rattle.page_turnover.proofs.log.Log.format.Goals as goal

pub returns-in-None : goal.returns-in-None
returns-in-None c image d = sym (format-none image (held_none image c.args.self.now d (rw (← c.self.view_is) c.in-None.is)))
