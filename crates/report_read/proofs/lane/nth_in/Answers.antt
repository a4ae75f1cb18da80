use Rattle.report_read.proofs.Usages.{nth_some, nth_none}
use Rattle.report_read.proofs.lane.nth_in.Goals as goal

pub returns-then-number-span : goal.returns-then-number-span
returns-then-number-span c = nth_some c.args.first c.args.span c.args.number c.if-number-span.true

pub returns-else-number-span : goal.returns-else-number-span
returns-else-number-span c = nth_none c.args.first c.args.span c.args.number c.if-number-span.false
