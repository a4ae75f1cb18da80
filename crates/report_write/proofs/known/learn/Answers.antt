use Rattle.std.proofs.Common.{◌∙◌, sym, ap}
use Rattle.descriptor_parse.specs.Descriptor.{usage_list}
use Rattle.field_values.specs.Values.{usage_read}
use Rattle.report_write.proofs.Knowing.{one_learned, none_learned}
use Rattle.report_write.proofs.known.learn.Goals as goal
use Rattle.report_write.proofs.known.learn.Goals.{in-Some, in_default}

pub loop-place-preserved : goal.loop-place-preserved
loop-place-preserved c =
    let field = c.args.declared.now.field in
    let usages = usage_list c.args.declared.now.ranges.now in
    let read = c.read_place.ensures.usage ∙ ap (usage_read field usages c.loop-place.place) c.read_place.ensures.raw in
    elim c.match-read_place.branch [
      | in-Some w ↦ rw w.slots-is (one_learned field usages c.args.bytes.now c.loop-place.place _ c.loop-place.slots _ c.loop-place.invariant
          (sym w.in-Some.is ∙ read) w.note_if.ensures.fell w.note_if.ensures.noted)
      | in_default w ↦ rw w.slots-is (none_learned field usages c.args.bytes.now c.loop-place.place c.loop-place.slots c.loop-place.invariant
          (sym w.in_default.is ∙ read))
    ]
