use Rattle.std.proofs.Common.{arith}
use Rattle.layers.proofs.BitSets.{has_bit-zeros, marked_none, none_unmarked, zero_marks}
use Rattle.layers.proofs.usages.clear_consumer.Goals as goal

pub returns-then-occupied-ne0-clause-none : goal.returns-then-occupied-ne0-clause-none
returns-then-occupied-ne0-clause-none c usage = has_bit-zeros 32 32 usage

pub returns-then-occupied-ne0-clause-marked : goal.returns-then-occupied-ne0-clause-marked
returns-then-occupied-ne0-clause-marked c = marked_none _ _ (λ number. has_bit-zeros 32 32 number)

pub returns-else-occupied-ne0-clause-none : goal.returns-else-occupied-ne0-clause-none
returns-else-occupied-ne0-clause-none c usage =
    none_unmarked c.args.set.now c.args.occupied.now usage c.requires (zero_marks c.args.occupied.now (omega arith) c.if-occupied-ne0.false)
