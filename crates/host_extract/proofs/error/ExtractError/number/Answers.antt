use Rattle.std.proofs.Common.{rules}
use Rattle.host_extract.proofs.error.ExtractError.number.Goals as goal

pub returns : goal.returns
returns c = search rules
