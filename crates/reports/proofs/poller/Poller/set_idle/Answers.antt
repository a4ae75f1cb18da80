use Rattle.std.proofs.Common.{refl, sym, ◌∙◌}
use Rattle.reports.proofs.Rule.{rule-idle}
use Rattle.reports.proofs.Waiting.{queue-idle}
use Rattle.reports.proofs.poller.Poller.set_idle.Goals as goal

pub returns-in-All-clause-refines : goal.returns-in-All-clause-refines
returns-in-All-clause-refines c past s =
    let h = rw (← c.self.view_is) at s in
    rw (c.in-All.is, c.of-self-inside.ensures, c.of-self-inside-in-All.ensures) record { rule = rule-idle past _ c.args.duration _ _ _ refl refl h.rule; queue = h.queue ∙ sym (queue-idle past _ c.args.duration) }

pub returns-in-One-clause-refines : goal.returns-in-One-clause-refines
returns-in-One-clause-refines c past s =
    let h = rw (← c.self.view_is) at s in
    rw (c.in-One.is, c.of-self-inside-in-One.ensures) record { rule = rule-idle past _ c.args.duration _ _ _ refl refl h.rule; queue = h.queue ∙ sym (queue-idle past _ c.args.duration) }

pub returns-in-Two-clause-refines : goal.returns-in-Two-clause-refines
returns-in-Two-clause-refines c past s =
    let h = rw (← c.self.view_is) at s in
    rw (c.in-Two.is, c.of-self-inside-in-Two.ensures) record { rule = rule-idle past _ c.args.duration _ _ _ refl refl h.rule; queue = h.queue ∙ sym (queue-idle past _ c.args.duration) }
