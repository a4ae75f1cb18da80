use Rattle.std.proofs.Common.{◌≡◌, ◌∙◌, List, ap, arith, length, drop}
use Rattle.descriptor_parse.specs.declared.field.Field.{Field}
use Rattle.report_read.specs.declared.reader.Plans.{Plans}
use Rattle.report_read.proofs.Rows.{written_back, all_filled}
use Rattle.report_read.proofs.reader.all_plans.Goals as goal

pub loop-number-init : goal.loop-number-init
loop-number-init c = (c.in_ok-by_id.ensures.filled c.args.null_states.now, c.in_ok-by_id.ensures.all)

pub add_field-requires-clause-filled : goal.add_field-requires-clause-filled
add_field-requires-clause-filled c = rw c.deref_mut.ensures.value c.loop-number.invariant.0

pub loop-number-preserved : goal.loop-number-preserved
loop-number-preserved c =
    let same : length c.add_field.new.by_id ≡ length c.loop-number.by_id.items = c.in_ok-add_field.ensures.long ∙ ap (λ (xs : List Plans). length xs) c.deref_mut.ensures.value in
    let fits : length c.add_field.new.by_id ≡ c.loop-number.by_id.len = omega (arith, same) in
    rw (written_back c.loop-number.by_id.len c.add_field.new.by_id (drop (length c.add_field.new.by_id) c.loop-number.by_id.items) fits)
    (c.in_ok-add_field.ensures.filled, rw same c.loop-number.invariant.1)

pub returns : goal.returns
returns c =
    let all = ap (λ (xs : List Field). length xs) c.fields-number-end.ensures.all in
    let end : c.loop-number.number ≡ length c.args.descriptor.now.fields = omega (arith, all, c.loop-number-test.false) in
    all_filled c.args.descriptor.now c.args.null_states.now c.loop-number.by_id.items (rw end at c.loop-number.invariant.0) c.loop-number.invariant.1
