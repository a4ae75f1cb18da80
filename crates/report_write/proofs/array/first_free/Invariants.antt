use Rattle.std.proofs.Common.{◌≡◌, None}
use Rattle.descriptor_parse.specs.Descriptor.{usage_list}
use Rattle.report_write.specs.Firsts.{first}
use Rattle.report_write.specs.Arrays.{is_free}
use Rattle.report_write.proofs.array.first_free.Given as goal

abbrev pub invariant-loop-place : goal.invariant-loop-place
invariant-loop-place l = first (is_free l.declared.field (usage_list l.declared.ranges.now) l.bytes l.marks) l.place ≡ None
