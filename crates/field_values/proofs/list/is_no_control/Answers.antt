use Rattle.std.proofs.Common.{rules}
use Rattle.field_values.proofs.list.is_no_control.Goals as goal

pub returns-in-Some : goal.returns-in-Some
returns-in-Some c = search rules
