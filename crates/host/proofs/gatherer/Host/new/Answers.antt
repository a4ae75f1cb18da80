use Rattle.host.specs.Kept.{gathering, kept}
use Rattle.host.proofs.gatherer.Host.new.Goals as goal

pub returns : goal.returns
unfolding gathering kept
returns c = record { gathering = tt; kept = tt }
