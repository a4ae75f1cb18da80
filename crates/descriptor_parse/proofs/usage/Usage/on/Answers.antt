use Rattle.std.proofs.Common.{rules}
use Rattle.descriptor_parse.proofs.usage.Usage.on.Goals as goal

pub returns-in-Short : goal.returns-in-Short
returns-in-Short c = search rules
