use Rattle.std.proofs.Common.{arith}
use Rattle.debounce.proofs.Words.{sampled_row}
use Rattle.debounce.proofs.row.Row.sampled.Goals as goal

pub returns : goal.returns
returns c = sampled_row c.args.self c.args.sample (omega arith) (omega arith)
