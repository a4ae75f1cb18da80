use Rattle.layers.specs.Usages.{has_consumer}
use Rattle.layers.proofs.BitSets.{LooksOn, next_marked, none_marked, none_in_marked, map_match}
use Rattle.layers.proofs.usages.Usages.next_consumer.Goals as goal

pub returns-in-Some-clause-next : goal.returns-in-Some-clause-next
unfolding has_consumer
returns-in-Some-clause-next c =
    let words = c.self.inside.consumer in
    let occupied = c.self.inside.occupied in
    let start : LooksOn c.args.from c.in-Some.place c.later.result = record { first = c.later.ensures.first; least = c.later.ensures.least } in
    rw (← c.self.view_is)
    (map_match c.next_member-in-Some.result
    (none_marked words occupied c.args.from c.in-Some.place c.later.result c.self.invariant.3 c.in-Some.ensures.next start)
    (λ n. next_marked words occupied c.args.from c.in-Some.place c.later.result n c.self.invariant.3 c.in-Some.ensures.next start)
    c.next_member-in-Some.ensures.next)

pub returns-in-None-clause-next : goal.returns-in-None-clause-next
unfolding has_consumer
returns-in-None-clause-next c = rw (← c.self.view_is) (none_in_marked c.self.inside.consumer c.self.inside.occupied c.args.from c.self.invariant.3 c.in-None.ensures.next)
