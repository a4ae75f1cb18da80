use Rattle.report_read.proofs.Rows.{one_longer, plans_more}
use Rattle.report_read.proofs.reader.empty_plans.Goals as goal

pub loop-id-preserved : goal.loop-id-preserved
loop-id-preserved c = (
  one_longer c.loop-id.by_id.items c.push.new.self.items _ c.loop-id.id c.in_ok-push.ensures.items c.loop-id.invariant.0,
  λ null_states. plans_more c.args.descriptor.now null_states c.loop-id.by_id.items c.push.new.self.items _ c.loop-id.id c.in_ok-push.ensures.items c.loop-id.invariant.0
      (c.loop-id.invariant.1 null_states) (c.empty_plan.ensures null_states) (c.empty_plan-in-loop-id.ensures null_states) (c.empty_plan-in-loop-id-2.ensures null_states),
)
