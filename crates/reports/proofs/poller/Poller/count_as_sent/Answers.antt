use Rattle.std.proofs.Common.{◌≡◌, length}
use Rattle.std.proofs.lemmas.Bool.{eqb-true}
use Rattle.reports.proofs.Rule.{rule-boot, rule-one, rule-two}
use Rattle.reports.proofs.poller.Poller.count_as_sent.Goals as goal

pub returns-in-Boot-clause-rule : goal.returns-in-Boot-clause-rule
returns-in-Boot-clause-rule c past protocol r =
    let size : length c.args.report ≡ 8 = eqb-true (length c.args.report) 8 (rw c.in-Boot.is at c.input.ensures) in
    rule-boot past protocol c.args.report _ _ size c.send.ensures.bytes c.send.ensures.age (rw (← c.self.view_is) at r)

pub returns-in-One-clause-rule : goal.returns-in-One-clause-rule
returns-in-One-clause-rule c past protocol r =
    let size : length c.args.report ≡ 23 = eqb-true (length c.args.report) 23 (rw c.in-One.is at c.input.ensures) in
    rule-one past protocol c.args.report _ _ size c.send-in-One.ensures.bytes c.send-in-One.ensures.age (rw (← c.self.view_is) at r)

pub returns-in-Two-clause-rule : goal.returns-in-Two-clause-rule
returns-in-Two-clause-rule c past protocol r =
    let size : length c.args.report ≡ 9 = eqb-true (length c.args.report) 9 (rw c.in-Two.is at c.input.ensures) in
    rule-two past protocol c.args.report _ _ size c.send-in-Two.ensures.bytes c.send-in-Two.ensures.age (rw (← c.self.view_is) at r)
