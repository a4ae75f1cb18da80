use Rattle.world.proofs.Descriptors.{kept_is_fetched}
use Rattle.world.proofs.sessions.kept_is_fetched.Goals as goal

pub returns : goal.returns
returns c defaults start past reported host answered hears fresh = kept_is_fetched defaults start past reported host answered hears fresh.0 fresh.1
