use Rattle.world.proofs.Broken.{not_acknowledged, not_confirmed}
use Rattle.world.proofs.examples.reported_without_being_stored.Goals as goal

pub returns-clause-acknowledged : goal.returns-clause-acknowledged
returns-clause-acknowledged c h = not_acknowledged h

pub returns-clause-confirmed : goal.returns-clause-confirmed
returns-clause-confirmed c h = not_confirmed h

pub returns-clause-broken : goal.returns-clause-broken
returns-clause-broken c h = not_acknowledged h.acknowledged.0.reported
