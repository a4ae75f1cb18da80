use Rattle.std.proofs.Common.{◌≡◌, ◌&&◌, None}
use Rattle.descriptor_parse.specs.Descriptor.{usage_list}
use Rattle.report_write.specs.Firsts.{first}
use Rattle.report_write.specs.Arrays.{names}
use Rattle.report_write.specs.Puts.{is_set}
use Rattle.report_write.proofs.array.is_set_already.Given as goal

abbrev pub invariant-loop-place : goal.invariant-loop-place
invariant-loop-place l =
    first (λ place. names l.declared.field (usage_list l.declared.ranges.now) l.bytes l.usage place && is_set l.declared.field l.marks place) l.place ≡ None
