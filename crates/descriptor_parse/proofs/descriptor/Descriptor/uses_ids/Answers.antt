use Rattle.std.proofs.Common.{rules}
use Rattle.descriptor_parse.proofs.descriptor.Descriptor.uses_ids.Goals as goal

pub returns : goal.returns
returns c = search rules
