use Rattle.std.proofs.Common.{refl}
use Rattle.report_read.proofs.Rows.{none_filled}
use Rattle.report_read.proofs.reader.empty_plan.Goals as goal

pub returns : goal.returns
returns c null_states = none_filled c.args.descriptor.now null_states c.args.kind c.args.id _ (rw (c.unwrap_or.ensures, c.report_len.ensures) refl) c.new.ensures.items
