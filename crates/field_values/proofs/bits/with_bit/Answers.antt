use Rattle.std.proofs.Common.{w8}
use Rattle.std.proofs.lemmas.Nat.Bits.{bit_at_set_same, bit_at_set_other, bit_at_clear_same, bit_at_clear_other}
use Rattle.field_values.proofs.bits.with_bit.Goals as goal

pub returns-then-one-clause-there : goal.returns-then-one-clause-there
returns-then-one-clause-there c = rw c.if-one.true (bit_at_set_same w8 c.args.byte c.args.place c.requires)

pub returns-then-one-clause-others : goal.returns-then-one-clause-others
returns-then-one-clause-others c = λ i below other. bit_at_set_other w8 c.args.byte c.args.place c.requires i other

pub returns-else-one-clause-there : goal.returns-else-one-clause-there
returns-else-one-clause-there c = rw c.if-one.false (bit_at_clear_same w8 c.args.byte c.args.place c.requires)

pub returns-else-one-clause-others : goal.returns-else-one-clause-others
returns-else-one-clause-others c = λ i below other. bit_at_clear_other w8 c.args.byte c.args.place c.requires i below other
