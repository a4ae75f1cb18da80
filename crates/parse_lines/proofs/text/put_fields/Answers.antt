use Rattle.std.proofs.Common.{◌∙◌, refl}
use Rattle.std.proofs.KnownBytes.{Appends-nil}
use Rattle.parse_lines.proofs.FieldLemmas.{field_lines-none, printed_more}
use Rattle.parse_lines.proofs.text.put_fields.Goals as goal

pub loop-place-init : goal.loop-place-init
loop-place-init g c = record { printed = rw field_lines-none (Appends-nil _); same_writer = refl }

pub loop-place-preserved : goal.loop-place-preserved
loop-place-preserved g c = record {
  printed = printed_more _ _ _ c.fields-field-items.result.now c.args.descriptor.now.fields c.args.descriptor.now.ranges c.loop-place.place _ c.ranges-ranges.result.now
      c.fields-field-items.ensures.all c.fields-field-items.ensures.well_formed.as_many c.loop-place-test.true c.ranges-ranges.ensures
      c.loop-place.invariant.printed c.in_ok-print.ensures.printed;
  same_writer = c.in_ok-print.ensures.same_writer ∙ c.loop-place.invariant.same_writer;
}
