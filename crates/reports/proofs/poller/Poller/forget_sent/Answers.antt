use Rattle.reports.proofs.Rule.{forgot-refines}
use Rattle.reports.proofs.poller.Poller.forget_sent.Goals as goal

pub returns-clause-refines : goal.returns-clause-refines
returns-clause-refines c past s = forgot-refines past _ _ c.clear.ensures.cleared c.clear.ensures.idle_one c.clear.ensures.idle_two s
