use Rattle.report_write.proofs.ArrayTheorems.{put_in_is_found}
use Rattle.report_write.proofs.theorems.what_is_put_in_is_found.Goals as goal

pub returns : goal.returns
returns c = put_in_is_found
