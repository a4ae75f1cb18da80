use Rattle.world.proofs.Lost.{not_legal, looks, reads, moments, gathers}
use Rattle.world.proofs.examples.a_settled_command_is_lost.Goals as goal

pub returns-clause-restarts : goal.returns-clause-restarts
returns-clause-restarts c h = not_legal h

pub returns-clause-broken : goal.returns-clause-broken
returns-clause-broken c h = not_legal h.restarts

pub returns-clause-looks : goal.returns-clause-looks
returns-clause-looks c = looks

pub returns-clause-reads : goal.returns-clause-reads
returns-clause-reads c = reads

pub returns-clause-moments : goal.returns-clause-moments
returns-clause-moments c = moments

pub returns-clause-gathered : goal.returns-clause-gathered
returns-clause-gathered c = gathers
