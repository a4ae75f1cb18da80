use Rattle.std.proofs.Common.{sym, Some, None}
use Rattle.std.proofs.lemmas.List.{append-nil}
use Rattle.report_read.specs.Changes.{on_by_all}
use Rattle.report_read.proofs.Compared.{gathered_none, gathered_one, gathered_some, each_failure}
use Rattle.report_read.proofs.difference.gather.Goals as goal

pub loop-value-preserved-in-Continue-1 : goal.loop-value-preserved-in-Continue-1
loop-value-preserved-in-Continue-1 c =
    let d = c.args.descriptor.now in
    gathered_one d c.in-Some.value c.loop-value.value-iterator.left c.next.new.self.left c.loop-value.usages.items c.push.new.self.items
    (on_by_all d c.args.reading.left) (Some c.in-Some-usage_on.usage) c.in-Some.ensures.steps.0 c.in-Some-usage_on.ensures c.in_ok-push.ensures.items c.loop-value.invariant

pub loop-value-preserved : goal.loop-value-preserved
loop-value-preserved c =
    let d = c.args.descriptor.now in
    gathered_one d c.in-Some.value c.loop-value.value-iterator.left c.next.new.self.left c.loop-value.usages.items c.loop-value.usages.items
    (on_by_all d c.args.reading.left) None c.in-Some.ensures.steps.0 c.in_default.ensures (sym (append-nil c.loop-value.usages.items)) c.loop-value.invariant

pub returns-clause-gathered : goal.returns-clause-gathered
returns-clause-gathered c =
    let d = c.args.descriptor.now in
    gathered_none d c.loop-value.value-iterator.left c.loop-value.usages.items (on_by_all d c.args.reading.left) c.in-None.ensures.steps.0.0 c.loop-value.invariant

pub returns-in_err-push-clause-refused : goal.returns-in_err-push-clause-refused
returns-in_err-push-clause-refused c =
    let d = c.args.descriptor.now in
    each_failure _ (gathered_some d c.in-Some.value c.loop-value.value-iterator.left c.next.new.self.left c.loop-value.usages.items
    (on_by_all d c.args.reading.left) c.in-Some-usage_on.usage c.in-Some.ensures.steps.0 c.in-Some-usage_on.ensures c.loop-value.invariant)
