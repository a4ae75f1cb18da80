use Rattle.std.proofs.Common.{rules}
use Rattle.descriptor_parse.proofs.globals.Globals.max.Goals as goal

pub returns-else-self-lt0 : goal.returns-else-self-lt0
returns-else-self-lt0 c = search rules
