use Rattle.report_read.proofs.Streams.{AreFirst}
use Rattle.report_read.proofs.stream.bytes_of_field.Given as goal

abbrev pub invariant-loop-place : goal.invariant-loop-place
invariant-loop-place l = AreFirst l.field l.report l.place l.bytes.items
