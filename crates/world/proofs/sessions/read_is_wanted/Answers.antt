use Rattle.world.proofs.Sending.{sent_is_wanted}
use Rattle.world.proofs.Fetching.{fetched_is_served}
use Rattle.world.proofs.Understood.{read_is_wanted}
use Rattle.world.proofs.sessions.read_is_wanted.Goals as goal

pub returns : goal.returns
returns c defaults start past reported host bytes reading answered hears fresh reads =
    read_is_wanted defaults start past host bytes reading (sent_is_wanted defaults start past bytes answered.0)
    (fetched_is_served defaults start past reported host answered.1 hears fresh.0 fresh.1) reads
