use Rattle.std.proofs.Common.{rules}
use Rattle.field_details.proofs.naming.least_after.Goals as goal

pub returns-else-prefix-maximum : goal.returns-else-prefix-maximum
returns-else-prefix-maximum c = search rules
