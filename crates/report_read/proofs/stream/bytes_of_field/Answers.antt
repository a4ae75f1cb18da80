use Rattle.report_read.proofs.Streams.{next_byte}
use Rattle.report_read.proofs.stream.bytes_of_field.Goals as goal

pub loop-place-preserved : goal.loop-place-preserved
loop-place-preserved c =
    next_byte c.args.field.now c.args.report.now c.loop-place.bytes.items c.push.new.self.items c.loop-place.place c.byte_from.result c.loop-place.invariant
    c.in_ok-push.ensures.items c.byte_from.ensures
