use Rattle.std.proofs.Common.{◌≡◌, None}
use Rattle.descriptor_parse.specs.Descriptor.{usage_list}
use Rattle.report_write.specs.Firsts.{first}
use Rattle.report_write.specs.Arrays.{names}
use Rattle.report_write.proofs.array.first_named.Given as goal

abbrev pub invariant-loop-place : goal.invariant-loop-place
invariant-loop-place l = first (names l.declared.field (usage_list l.declared.ranges.now) l.bytes l.usage) l.place ≡ None
