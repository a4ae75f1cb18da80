use Rattle.report_read.proofs.Usages.{way_own}
use Rattle.report_read.proofs.lane.Lane.usage.Goals as goal

pub returns-in-Own : goal.returns-in-Own
returns-in-Own c =
    rw c.min.ensures (way_own c.args.descriptor.now c.args.self.now c.args.place c.args.raw c.in-Own.is c.requires.lane c.requires.within)
