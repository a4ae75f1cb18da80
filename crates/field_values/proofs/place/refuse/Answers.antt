use Rattle.std.proofs.Common.{rules}
use Rattle.field_values.proofs.place.refuse.Goals as goal

pub returns-then-not-is_within : goal.returns-then-not-is_within
returns-then-not-is_within c = search rules
