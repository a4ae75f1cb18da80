use Rattle.std.proofs.Common.{arith}
use Rattle.std.proofs.lemmas.Grind.{common_steps}
use Rattle.descriptor_parse.proofs.descriptor.Descriptor.report_len.Goals as goal

pub returns-then-uses_ids : goal.returns-then-uses_ids
returns-then-uses_ids c = grind (arith, common_steps)

pub returns-else-uses_ids : goal.returns-else-uses_ids
returns-else-uses_ids c = grind (arith, common_steps)
