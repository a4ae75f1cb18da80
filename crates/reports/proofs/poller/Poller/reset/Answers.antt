use Rattle.std.proofs.Common.{refl}
use Rattle.reports.proofs.Rule.{fresh-refines, reset-refines, nothing-idle}
use Rattle.reports.proofs.poller.Poller.reset.Goals as goal

pub returns-clause-refines : goal.returns-clause-refines
returns-clause-refines c past s =
    rw (c.of-self-inside.ensures, c.of-self-inside-2.ensures) (reset-refines past _ (fresh-refines _ (nothing-idle _ 125 0 (rw (← c.self.view_is) at c.clear.ensures.cleared)) refl refl))

pub returns-clause-fresh : goal.returns-clause-fresh
returns-clause-fresh c = rw (c.of-self-inside.ensures, c.of-self-inside-2.ensures) (fresh-refines _ (nothing-idle _ 125 0 (rw (← c.self.view_is) at c.clear.ensures.cleared)) refl refl)
