use Rattle.std.proofs.Common.{sym}
use Rattle.steady_flash.proofs.Doubts.{count_as, whole_as}
use Rattle.steady_flash.proofs.steady.SteadyFlashNorFlash.pages.Goals as goal

pub returns-clause-count : goal.returns-clause-count
returns-clause-count g c = sym (count_as (g.F.MarkedFlash.slots c.args.self.now.flash) c.args.self.now.layout c.args.self.now.in_doubt)

pub returns-clause-whole : goal.returns-clause-whole
returns-clause-whole g c = whole_as _ (g.F.MarkedFlash.slots c.args.self.now.flash) c.args.self.now.layout c.args.self.now.in_doubt c.args.self.now.laid_out c.args.self.now.settled
