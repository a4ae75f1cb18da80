use Rattle.std.proofs.Common.{◌≡◌, ◌≤◌, take, length}
use Rattle.descriptor_build.specs.Items.{descriptor_bytes}
use Rattle.descriptor_build.proofs.build.Given as goal

abbrev pub invariant-loop-spec : goal.invariant-loop-spec
invariant-loop-spec l = record {
  built : l.bytes.items ≡ descriptor_bytes (take l.spec-index l.specs);
  fits : length l.bytes.items ≤ 256;
}
