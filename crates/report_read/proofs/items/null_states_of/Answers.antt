use Rattle.report_read.proofs.Places.{null_states_start}
use Rattle.report_read.proofs.items.null_states_of.Goals as goal

pub loop-placed-init : goal.loop-placed-init
loop-placed-init c =
    null_states_start c.args.details.now.fields.items _ _ _ c.in_ok-null_states.ensures.items c.into_iter-placed-iterator.ensures.into_iter_gives c.data_fields-placed-items.ensures
