use Rattle.std.proofs.Common.{rules}
use Rattle.host_extract.proofs.number.value_under.Goals as goal

pub returns-else-minimum-lt0 : goal.returns-else-minimum-lt0
returns-else-minimum-lt0 c = search rules
