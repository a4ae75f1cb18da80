use Rattle.std.proofs.Common.{◌≡◌, length, arith}
use Rattle.std.proofs.lemmas.Option.{slice_get-get_or}
use Rattle.report_write.proofs.Hinted.{more_hints, whole}
use Rattle.report_write.proofs.hints.hints_of.Goals as goal

pub loop-number-preserved : goal.loop-number-preserved
loop-number-preserved c =
    rw (
      whole c.note_field.new.fields c.loop-number.fields.items c.loop-number.fields.len (rw c.deref_mut.ensures.value at c.note_field.ensures.long) c.loop-number.fields.ok.0,
      whole c.note_field.new.ranges c.loop-number.ranges.items c.loop-number.ranges.len (rw c.deref_mut-in-loop-number.ensures.value at c.note_field.ensures.length) c.loop-number.ranges.ok.0,
    ) (more_hints c.args.descriptor.now c.args.kept.now c.loop-number.fields.items c.loop-number.ranges.items c.note_field.new.fields c.note_field.new.ranges
    c.loop-number.number _ (slice_get-get_or c.args.kept.now c.loop-number.number _ c.loop-number-test.true) c.loop-number.invariant
    (rw c.deref_mut.ensures.value at c.note_field.ensures.fields) (rw c.deref_mut-in-loop-number.ensures.value at c.note_field.ensures.ranges)
    (rw c.ranges-its.ensures at c.note_field.ensures.noted))

pub returns : goal.returns
returns c =
    let all : c.loop-number.number ≡ length c.args.kept.now = omega (arith, c.loop-number.auto.number-end, c.loop-number-test.false) in
    rw all at c.loop-number.invariant
