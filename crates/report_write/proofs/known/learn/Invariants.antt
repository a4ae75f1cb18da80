use Rattle.descriptor_parse.specs.Descriptor.{usage_list}
use Rattle.report_write.specs.representation.Known.{AreNoted}
use Rattle.report_write.proofs.known.learn.Given as goal

abbrev pub invariant-loop-place : goal.invariant-loop-place
invariant-loop-place l = AreNoted l.declared.field (usage_list l.declared.ranges.now) l.bytes l.place l.slots
