use Rattle.world.proofs.Fetching.{fetched_is_served}
use Rattle.world.proofs.sessions.fetched_is_served.Goals as goal

pub returns : goal.returns
returns c defaults start past reported host answered hears fresh = fetched_is_served defaults start past reported host answered hears fresh.0 fresh.1
