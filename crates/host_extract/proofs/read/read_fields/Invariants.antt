use Rattle.std.proofs.Common.{◌≡◌, ◌++◌}
use Rattle.descriptor_parse.specs.declared.field.Kind.TheVariants.{Input}
use Rattle.descriptor_parse.specs.Readers.{fields_of}
use Rattle.host_extract.specs.Found.{found_in}
use Rattle.host_extract.proofs.ReportLemmas.{AllFit}
use Rattle.host_extract.proofs.read.read_fields.Given as goal

-- what was read, and then what the fields that are left will read
abbrev pub invariant-loop-place : goal.invariant-loop-place
invariant-loop-place l = record {
  readings : l.out.items ++ found_in l.place-iterator l.bytes ≡ found_in (fields_of l.descriptor Input l.id) l.bytes;
  fit : AllFit l.place-iterator;
}
