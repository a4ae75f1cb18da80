use Rattle.layers.specs.Usages.{has_key}
use Rattle.layers.proofs.usages.Usages.next_key.Goals as goal

pub returns-clause-next : goal.returns-clause-next
unfolding has_key
returns-clause-next c = rw (← c.self.view_is) c.next_member.ensures.next
