use Rattle.std.proofs.Common.{rules}
use Rattle.field_details.proofs.detail.Detail.physical.Goals as goal

pub returns-then-self-eq0-2-clause-declared : goal.returns-then-self-eq0-2-clause-declared
returns-then-self-eq0-2-clause-declared c = search rules
