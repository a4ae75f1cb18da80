use Rattle.std.proofs.Common.{rules}
use Rattle.descriptor_parse.proofs.locals.Locals.clear.Goals as goal

pub returns-then-is_some-clause-usages : goal.returns-then-is_some-clause-usages
returns-then-is_some-clause-usages c = search rules

pub returns-else-is_some-clause-usages : goal.returns-else-is_some-clause-usages
returns-else-is_some-clause-usages c = search rules
