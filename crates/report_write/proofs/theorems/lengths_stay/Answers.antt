use Rattle.report_write.proofs.TheoremsHold.{as_long}
use Rattle.report_write.proofs.theorems.lengths_stay.Goals as goal

pub returns : goal.returns
returns c = as_long
