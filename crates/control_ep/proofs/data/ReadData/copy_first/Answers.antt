use Rattle.std.proofs.Common.{arith}
use Rattle.control_ep.proofs.Left.{front_is}
use Rattle.control_ep.proofs.data.ReadData.copy_first.Goals as goal

pub returns : goal.returns
returns c = front_is c.self.inside.copy c.args.bytes c.word.result c.word-2.result c.args.length (omega arith) (omega arith) (omega arith) c.word.ensures c.word-2.ensures
