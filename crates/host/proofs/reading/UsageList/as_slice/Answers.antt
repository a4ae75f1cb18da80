use Rattle.std.proofs.Common.{rules}
use Rattle.host.proofs.reading.UsageList.as_slice.Goals as goal

pub returns : goal.returns
returns c = search rules
