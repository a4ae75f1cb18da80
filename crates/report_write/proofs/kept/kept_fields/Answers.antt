use Rattle.report_write.proofs.Room.{nothing_kept, next_kept, next_left}
use Rattle.report_write.proofs.kept.kept_fields.Goals as goal
use Rattle.report_write.proofs.kept.kept_fields.Goals.{then-is_of_report+in_ok-push, else-is_of_report}

pub loop-number-init : goal.loop-number-init
loop-number-init c = rw c.new-kept.ensures.items (nothing_kept c.args.descriptor.now c.args.null_states.now c.args.kind c.args.id)

pub loop-number-preserved : goal.loop-number-preserved
loop-number-preserved c = elim c.if-is_of_report.branch [
  | then-is_of_report+in_ok-push w ↦ (let made = w.in_ok-push.ensures in
      rw (w.kept-is, made.items)
      (next_kept c.args.descriptor.now c.args.null_states.now c.args.kind c.args.id c.loop-number.number c.fields-fields.result.now _
      c.is_of_report.result w.has_null_state-null_state.result c.loop-number.kept.items c.fields-fields.ensures.all c.fields-fields.ensures.well_formed
      c.loop-number-test.true c.is_of_report.ensures w.if-is_of_report.true w.has_null_state-null_state.ensures c.loop-number.invariant))
  | else-is_of_report w ↦ rw w.kept-is
      (next_left c.args.descriptor.now c.args.null_states.now c.args.kind c.args.id c.loop-number.number c.fields-fields.result.now _
      c.is_of_report.result c.loop-number.kept.items c.fields-fields.ensures.all
      c.loop-number-test.true c.is_of_report.ensures w.if-is_of_report.false c.loop-number.invariant)
]
