use Rattle.reports.proofs.Rule.{rule-none}
use Rattle.reports.proofs.poller.Poller.send_due.Goals as goal

pub returns-in-None-clause-rule : goal.returns-in-None-clause-rule
returns-in-None-clause-rule c past r = rule-none past c.args.protocol _ r
