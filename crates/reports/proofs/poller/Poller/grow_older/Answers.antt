use Rattle.std.proofs.Common.{refl}
use Rattle.reports.proofs.Rule.{rule-tick}
use Rattle.reports.proofs.poller.Poller.grow_older.Goals as goal

pub returns-clause-rule : goal.returns-clause-rule
returns-clause-rule c past protocol before now r =
    rule-tick past protocol before now _ _ (rw (← c.self.view_is) at r)
    (c.tick.ensures.bytes, c.tick.ensures.age) (c.tick-2.ensures.bytes, c.tick-2.ensures.age) (c.tick-3.ensures.bytes, c.tick-3.ensures.age)
    refl refl refl
