use Rattle.std.proofs.Common.{rules}
use Rattle.field_values.proofs.value.where_is.Goals as goal

pub returns-then-not-field : goal.returns-then-not-field
returns-then-not-field c = search rules
