use Rattle.std.proofs.Common.{◌/◌, arith, refl}
use Rattle.layers.proofs.BitSets.{next_later, has_bit-clear_cell, least_in_cell, least_of_cell}
use Rattle.layers.proofs.bits.next_member.Goals as goal

pub returns-then-bits-ne0-clause-next : goal.returns-then-bits-ne0-clause-next
returns-then-bits-ne0-clause-next c =
    (least_in_cell c.args.words.now c.args.from _ _ refl (c.type_inv.words (c.args.from / 32)).fits c.if-bits-ne0.true refl).next

pub returns-then-bits-ne0-clause-within : goal.returns-then-bits-ne0-clause-within
returns-then-bits-ne0-clause-within c =
    omega (arith, (least_in_cell c.args.words.now c.args.from _ _ refl (c.type_inv.words (c.args.from / 32)).fits c.if-bits-ne0.true refl).here)

pub loop-place-init : goal.loop-place-init
loop-place-init c other l m = has_bit-clear_cell c.args.words.now c.args.from other l (omega arith) c.if-bits-ne0.false

pub returns-then-bits-ne0-2-clause-next : goal.returns-then-bits-ne0-2-clause-next
returns-then-bits-ne0-2-clause-next c =
    next_later c.args.words.now c.args.from c.loop-place.place _ (omega arith) c.loop-place.invariant
    (least_of_cell c.args.words.now c.loop-place.place _ refl (c.type_inv.words c.loop-place.place).fits c.if-bits-ne0-2.true)
