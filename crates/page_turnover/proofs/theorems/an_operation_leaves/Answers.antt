use Rattle.page_turnover.proofs.Leaving.{leaves}
use Rattle.page_turnover.proofs.theorems.an_operation_leaves.Goals as goal

pub returns : goal.returns
returns c old new log operation d e i g = leaves old new log operation d e i g
