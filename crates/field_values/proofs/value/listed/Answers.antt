use Rattle.std.proofs.Common.{rules}
use Rattle.field_values.proofs.value.listed.Goals as goal

pub returns-then-is_within : goal.returns-then-is_within
returns-then-is_within c = search rules
