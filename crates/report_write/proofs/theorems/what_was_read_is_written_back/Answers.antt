use Rattle.report_write.proofs.TheoremsHold.{written_as_read}
use Rattle.report_write.proofs.theorems.what_was_read_is_written_back.Goals as goal

pub returns : goal.returns
returns c = written_as_read
