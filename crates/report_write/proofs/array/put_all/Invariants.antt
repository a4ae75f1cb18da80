use Rattle.descriptor_parse.specs.Descriptor.{usage_list}
use Rattle.report_write.specs.Arrays.{names}
use Rattle.report_write.proofs.ArraysCleared.{ArePutTo}
use Rattle.report_write.proofs.array.put_all.Given as goal

abbrev pub invariant-loop-place : goal.invariant-loop-place
invariant-loop-place l = ArePutTo l.declared.field (names l.declared.field (usage_list l.declared.ranges.now) l.fn.bytes l.usage) l.value l.fn.bytes l.place l.bytes
