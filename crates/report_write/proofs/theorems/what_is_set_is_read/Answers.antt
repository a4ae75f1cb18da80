use Rattle.report_write.proofs.TheoremsHold.{value_is_read, usage_is_found}
use Rattle.report_write.proofs.theorems.what_is_set_is_read.Goals as goal

pub returns-clause-value : goal.returns-clause-value
returns-clause-value c = value_is_read

pub returns-clause-found : goal.returns-clause-found
returns-clause-found c = usage_is_found
