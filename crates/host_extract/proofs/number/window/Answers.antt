use Rattle.std.proofs.Common.{arith}
use Rattle.std.proofs.lemmas.Grind.{common_steps}
use Rattle.host_extract.proofs.number.window.Goals as goal

pub returns-in-Some-len5-up : goal.returns-in-Some-len5-up
returns-in-Some-len5-up c = grind (arith, common_steps)
