use Rattle.settings.proofs.Compacting.{all_of_them}
use Rattle.settings.proofs.theorems.compacted.Goals as goal

pub returns : goal.returns
returns c = all_of_them
