use Rattle.std.proofs.Common.{◌≡◌, ◌+◌, ◌*◌, ◌≤◌}
use Rattle.descriptor_parse.specs.declared.field.Kind.TheVariants.{Input}
use Rattle.descriptor_parse.specs.Readers.{fields_of}
use Rattle.host_extract.proofs.ReportLemmas.{places_of}
use Rattle.host_extract.proofs.read.places.Given as goal

-- those that were counted, and then those of the fields that are left
abbrev pub invariant-loop-declared : goal.invariant-loop-declared
invariant-loop-declared l = record {
  all : l.places + places_of l.declared-iterator ≡ places_of (fields_of l.descriptor Input l.id);
  few : places_of (fields_of l.descriptor Input l.id) ≤ 1024 * 256;
}
