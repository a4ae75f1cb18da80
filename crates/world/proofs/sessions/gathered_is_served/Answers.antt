use Rattle.world.proofs.Fetching.{gathered_is_served}
use Rattle.world.proofs.sessions.gathered_is_served.Goals as goal

pub returns : goal.returns
returns c defaults start past reported host fetch answered hears fresh gathers = gathered_is_served defaults start past reported host fetch answered hears fresh.0 fresh.1 gathers
