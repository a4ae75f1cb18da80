use Rattle.std.proofs.Common.{◌∙◌}
use Rattle.layers.specs.Usages.{has_key, has_consumer}
use Rattle.reports.specs.Wanted.{wanted}
use Rattle.reports.proofs.Waiting.{queue-boot-pushed, queue-report-pushed}
use Rattle.reports.proofs.poller.Poller.push_changes.Goals as goal

pub returns-in-Boot-clause-queue : goal.returns-in-Boot-clause-queue
returns-in-Boot-clause-queue c past before m e =
    let now = wanted (has_key c.args.now.now) (has_consumer c.args.now.now) in
    let m1 = rw (← c.self.view_is, c.in-Boot.is) at m in
    let e1 = rw (← c.self.view_is) at e in
    rw c.in-Boot.is (c.turn.ensures.queue ∙ rw (e1, m1.are, c.boot.ensures) (queue-boot-pushed past before now))

pub returns-in-Report-clause-queue : goal.returns-in-Report-clause-queue
returns-in-Report-clause-queue c past before m e =
    let now = wanted (has_key c.args.now.now) (has_consumer c.args.now.now) in
    let m1 = rw (← c.self.view_is, c.in-Report.is) at m in
    let e1 = rw (← c.self.view_is) at e in
    rw c.in-Report.is (c.turn-in-Report-2.ensures.queue
    ∙ rw (c.turn-in-Report.ensures.queue, e1, m1.are.0, c.bitmap.ensures, m1.are.1, c.consumer.ensures) (queue-report-pushed past before now))
