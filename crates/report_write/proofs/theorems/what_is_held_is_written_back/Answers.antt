use Rattle.report_write.proofs.TheoremsHold.{held_written_back}
use Rattle.report_write.proofs.theorems.what_is_held_is_written_back.Goals as goal

pub returns : goal.returns
returns c = held_written_back
