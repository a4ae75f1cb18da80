use Rattle.std.proofs.Common.{arith}
use Rattle.debounce.proofs.Words.{recounted_row}
use Rattle.debounce.proofs.row.Count.sampled.Goals as goal

pub returns : goal.returns
returns c = recounted_row c.args.self c.args.latest c.args.sample (omega arith) (omega arith) (omega arith) (omega arith)
