use Rattle.std.proofs.Common.{◌≡◌, ◌++◌, drop}
use Rattle.descriptor_parse.specs.Descriptor.{usage_list}
use Rattle.host_extract.specs.Found.{readings_of}
use Rattle.host_extract.proofs.FieldLemmas.{served}
use Rattle.host_extract.proofs.places.read_variable.Given as goal

abbrev pub invariant-loop-place : goal.invariant-loop-place
invariant-loop-place l = record {
  left : l.usages ≡ drop l.place (usage_list l.declared.ranges.now);
  serving : l.serving ≡ served (usage_list l.declared.ranges.now) l.place;
  items : l.out.items ≡ l.fn.out.items ++ readings_of l.declared.field (usage_list l.declared.ranges.now) l.bytes l.place;
}
