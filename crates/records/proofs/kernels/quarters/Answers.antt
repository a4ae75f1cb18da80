use Rattle.records.proofs.Lanes.{quarter_lane}
use Rattle.records.proofs.kernels.quarters.Goals as goal

pub returns-clause-all : goal.returns-clause-all
returns-clause-all c k l = quarter_lane c.args.lanes c.fits-lanes.0 k l
