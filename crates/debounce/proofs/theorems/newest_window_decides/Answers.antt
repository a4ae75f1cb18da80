use Rattle.debounce.specs.Samples.{samples, down}
use Rattle.debounce.proofs.Newest.{newest-decides, none-decides}
use Rattle.debounce.proofs.theorems.newest_window_decides.Goals as goal

pub returns-clause-newest : goal.returns-clause-newest
unfolding down
returns-clause-newest c scans key start value w = newest-decides (samples scans key) start value w

pub returns-clause-none : goal.returns-clause-none
unfolding down
returns-clause-none c scans key none = none-decides (samples scans key) none
