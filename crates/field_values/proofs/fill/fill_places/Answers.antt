use Rattle.std.proofs.Common.{◌≡◌, arith, to_z, of_z, w64, rules, ◌∙◌}
use Rattle.field_values.proofs.Filling.{none_filled, one_filled}
use Rattle.field_values.proofs.fill.fill_places.Goals as goal

pub loop-place-init : goal.loop-place-init
loop-place-init c = none_filled c.args.field.now (to_z w64 (of_z w64 c.args.value)) c.args.bytes.now

pub loop-place-preserved : goal.loop-place-preserved
loop-place-preserved c =
    one_filled c.args.field.now (to_z w64 (of_z w64 c.args.value)) c.args.bytes.now c.loop-place.place c.loop-place.bytes c.put_place.new.bytes
    c.loop-place.invariant c.put_place.ensures.length c.put_place.ensures.there c.put_place.ensures.inside c.put_place.ensures.others

pub returns-clause-there : goal.returns-clause-there
returns-clause-there c = λ place below bits.
    let all : c.loop-place.place ≡ c.args.field.now.count = omega (arith, c.loop-place.auto.place-end, c.loop-place-test.false) in
    let value : to_z w64 (of_z w64 c.args.value) ≡ c.args.value = search rules in
    c.loop-place.invariant.there place (omega arith) bits ∙ value

pub returns-clause-inside : goal.returns-clause-inside
returns-clause-inside c = λ place below.
    let all : c.loop-place.place ≡ c.args.field.now.count = omega (arith, c.loop-place.auto.place-end, c.loop-place-test.false) in
    let value : to_z w64 (of_z w64 c.args.value) ≡ c.args.value = search rules in
    rw value at (c.loop-place.invariant.inside place (omega arith))

pub returns-clause-others : goal.returns-clause-others
returns-clause-others c = λ bit out.
    let all : c.loop-place.place ≡ c.args.field.now.count = omega (arith, c.loop-place.auto.place-end, c.loop-place-test.false) in
    (rw all at c.loop-place.invariant).others bit out
