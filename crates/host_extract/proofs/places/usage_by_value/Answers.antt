use Rattle.std.proofs.Common.{rules}
use Rattle.host_extract.proofs.places.usage_by_value.Goals as goal

pub returns-clause-usage : goal.returns-clause-usage
returns-clause-usage c = search rules

pub returns-clause-reads : goal.returns-clause-reads
returns-clause-reads c = search rules
