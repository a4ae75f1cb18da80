use Rattle.report_write.proofs.ArraysNamed.{named_once}
use Rattle.report_write.proofs.theorems.what_is_named_is_in.Goals as goal

pub returns : goal.returns
returns c = named_once
