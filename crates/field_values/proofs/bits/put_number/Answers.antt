use Rattle.std.proofs.Common.{◌≡◌, arith}
use Rattle.field_values.proofs.Writing.{all_there}
use Rattle.field_values.proofs.bits.put_number.Goals as goal

pub returns-clause-inside : goal.returns-clause-inside
returns-clause-inside c =
    let all : c.loop-place.place ≡ c.args.size = omega (arith, c.loop-place.auto.place-end, c.loop-place-test.false) in
    (rw all at c.loop-place.invariant).written

pub returns-clause-there : goal.returns-clause-there
returns-clause-there c = λ within.
    let all : c.loop-place.place ≡ c.args.size = omega (arith, c.loop-place.auto.place-end, c.loop-place-test.false) in
    all_there c.args.from c.args.number c.args.bytes.now c.args.size c.loop-place.bytes (rw all at c.loop-place.invariant) c.requires.fits within
