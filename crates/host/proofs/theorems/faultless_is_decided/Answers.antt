use Rattle.host.proofs.Clean.{decided}
use Rattle.host.proofs.theorems.faultless_is_decided.Goals as goal

pub returns : goal.returns
returns c = decided
