use Rattle.std.proofs.Common.{◌%◌, arith}
use Rattle.std.proofs.Math.Nat.{mod-lt}
use Rattle.descriptor_parse.proofs.ItemLemmas.{shifted, shifted_few}
use Rattle.descriptor_parse.proofs.items.data_len.Goals as goal

pub returns-clause-size : goal.returns-clause-size
returns-clause-size c = shifted (c.args.prefix % 4) (mod-lt c.args.prefix (omega arith))

pub returns-clause-most : goal.returns-clause-most
returns-clause-most c = shifted_few (c.args.prefix % 4) (mod-lt c.args.prefix (omega arith))
