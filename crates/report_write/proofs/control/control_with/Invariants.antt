use Rattle.std.proofs.Common.{◌≡◌, ◌+◌, length, take}
use Rattle.std.specs.Prelude.{flat_map}
use Rattle.descriptor_parse.specs.Descriptor.{usage_list, ranges_at}
use Rattle.report_write.specs.Controls.{controls_in}
use Rattle.report_write.proofs.control.control_with.Given as goal

abbrev pub invariant-loop-number : goal.invariant-loop-number
invariant-loop-number l = length (flat_map (λ k. controls_in (usage_list (ranges_at l.descriptor k.number)) l.usage k) (take l.number l.kept)) + l.left ≡ l.place
