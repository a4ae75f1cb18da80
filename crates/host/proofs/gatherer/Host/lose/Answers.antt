use Rattle.host.specs.Kept.{gathering, kept}
use Rattle.host.proofs.gatherer.Host.lose.Goals as goal

pub returns : goal.returns
unfolding gathering kept
returns c past s = record { gathering = tt; kept = s.kept }
