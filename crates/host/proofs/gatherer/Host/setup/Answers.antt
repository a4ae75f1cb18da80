use Rattle.host.specs.Kept.{gathering, kept}
use Rattle.host.proofs.gatherer.Host.setup.Goals as goal

pub returns : goal.returns
unfolding gathering kept
returns c past s = record { gathering = c.begun_by.ensures; kept = s.kept }
