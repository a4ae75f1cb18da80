use Rattle.std.proofs.Common.{arith, ◌-◌}
use Rattle.layers.proofs.FormatWords.{consumer_list-small}
use Rattle.layers.proofs.command.code_of_format_1.Goals as goal

pub overflow_add-result : goal.overflow_add-result
overflow_add-result c = omega (arith, consumer_list-small (c.args.code - 0x4000))
