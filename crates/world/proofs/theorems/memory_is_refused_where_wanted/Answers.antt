use Rattle.world.proofs.Wanting.{refused_where_wanted}
use Rattle.world.proofs.theorems.memory_is_refused_where_wanted.Goals as goal

pub returns : goal.returns
returns c defaults start history h = refused_where_wanted defaults start history h
