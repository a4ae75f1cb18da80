use Rattle.world.proofs.Following.{goes_on, not_again}
use Rattle.world.proofs.sessions.moments_go_on.Goals as goal

pub returns-clause-onward : goal.returns-clause-onward
returns-clause-onward c defaults start before since first last e f = goes_on defaults start before since first last e f

pub returns-clause-once : goal.returns-clause-once
returns-clause-once c defaults start before since answer report e f = not_again defaults start before since answer report e f
