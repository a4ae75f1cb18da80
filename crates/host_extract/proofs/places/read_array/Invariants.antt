use Rattle.std.proofs.Common.{◌≡◌, ◌++◌}
use Rattle.descriptor_parse.specs.Descriptor.{usage_list}
use Rattle.host_extract.specs.Found.{readings_of}
use Rattle.host_extract.proofs.places.read_array.Given as goal

abbrev pub invariant-loop-place : goal.invariant-loop-place
invariant-loop-place l = l.out.items ≡ l.fn.out.items ++ readings_of l.declared.field (usage_list l.declared.ranges.now) l.bytes l.place
