use Rattle.report_read.proofs.Lists.{begins}
use Rattle.report_read.proofs.reading.Reading.new.Goals as goal

pub invariant_of-result : goal.invariant_of-result
invariant_of-result c = (c.requires, begins c.args.descriptor.now c.args.lanes.now c.requires)
