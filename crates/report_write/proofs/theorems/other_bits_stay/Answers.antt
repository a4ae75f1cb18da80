use Rattle.report_write.proofs.TheoremsHold.{other_bits}
use Rattle.report_write.proofs.theorems.other_bits_stay.Goals as goal

pub returns : goal.returns
returns c = other_bits
