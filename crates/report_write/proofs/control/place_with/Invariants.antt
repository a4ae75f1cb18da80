use Rattle.std.proofs.Common.{◌≡◌, ◌+◌}
use Rattle.descriptor_parse.specs.Descriptor.{usage_list}
use Rattle.report_write.proofs.Walked.{counted, reach}
use Rattle.report_write.proofs.control.place_with.Given as goal

abbrev pub invariant-loop-range : goal.invariant-loop-range
invariant-loop-range l = counted l.declared.field (usage_list l.declared.ranges.now) l.usage (reach l.declared.field l.declared.ranges.now l.range) + l.left ≡ l.number
