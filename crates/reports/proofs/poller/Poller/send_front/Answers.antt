use Rattle.reports.proofs.Rule.{rule-none, rule-queue}
use Rattle.reports.proofs.poller.Poller.send_front.Goals as goal
use Rattle.std.proofs.Common.{rules}

pub returns-in-None-clause-rule : goal.returns-in-None-clause-rule
returns-in-None-clause-rule c past protocol r = rule-none past protocol _ (rule-queue past _ c.pop.new.self (rw (← c.self.view_is) at r))

pub returns-in-Some-clause-front : goal.returns-in-Some-clause-front
returns-in-Some-clause-front c = search rules
