use Rattle.report_write.proofs.ArrayTheorems.{taken_out_is_gone}
use Rattle.report_write.proofs.theorems.what_is_taken_out_is_gone.Goals as goal

pub returns : goal.returns
returns c = taken_out_is_gone
