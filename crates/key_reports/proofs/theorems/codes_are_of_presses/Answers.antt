use Rattle.key_reports.proofs.Pressed.{code-none, code-latest}
use Rattle.key_reports.proofs.theorems.codes_are_of_presses.Goals as goal

pub returns-clause-up : goal.returns-clause-up
returns-clause-up c past key l up = code-none past key l up

pub returns-clause-down : goal.returns-clause-down
returns-clause-down c past key l on = code-latest past key l on
