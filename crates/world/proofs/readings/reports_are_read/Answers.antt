use Rattle.world.proofs.All.{all-read, all-taken}
use Rattle.world.proofs.readings.reports_are_read.Goals as goal

pub returns-clause-read : goal.returns-clause-read
returns-clause-read c = all-read

pub returns-clause-taken : goal.returns-clause-taken
returns-clause-taken c = all-taken
