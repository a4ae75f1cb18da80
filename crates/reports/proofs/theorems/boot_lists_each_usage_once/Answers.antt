use Rattle.reports.proofs.Rising.{listed-exactly}
use Rattle.reports.proofs.theorems.boot_lists_each_usage_once.Goals as goal

pub returns : goal.returns
returns c = listed-exactly
