use Rattle.std.proofs.Common.{rules}
use Rattle.host.proofs.gathering.Gathering.begun_by.Goals as goal

pub returns : goal.returns
returns c = search rules
