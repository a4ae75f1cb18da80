use Rattle.std.proofs.Common.{rules}
use Rattle.page_turnover.proofs.attempt.holds.Goals as goal

pub returns-in-Good : goal.returns-in-Good
returns-in-Good g c = search rules

pub returns-in-Free : goal.returns-in-Free
returns-in-Free g c = search rules
