use Rattle.std.proofs.Common.{◌≡◌, ◌/◌, ◌∙◌, arith, to_z, of_z, rules}
use Rattle.std.specs.Prelude.{pos, unsigned_abs}
use Rattle.std.specs.Int.{w128}
use Rattle.std.proofs.lemmas.Int.{ints}
use Rattle.field_values.proofs.Fractions.{divisor_some, some_below, reduced_same, reduced_lowest}
use Rattle.field_values.proofs.physical.reduced.Goals as goal

pub nonzero_div-above : goal.nonzero_div-above
nonzero_div-above c = omega (arith, divisor_some _ _ _ c.requires.some c.common_divisor-divisor.ensures)

pub nonzero_div-result : goal.nonzero_div-result
nonzero_div-result c = omega (arith, divisor_some _ _ _ c.requires.some c.common_divisor-divisor.ensures)

pub returns-clause-same : goal.returns-clause-same
returns-clause-same c =
    let given : to_z w128 (of_z w128 c.args.numerator) ≡ c.args.numerator = search rules in
    let size : c.unsigned_abs-above.result ≡ unsigned_abs c.args.numerator = rw given at c.unsigned_abs-above.ensures.value in
    let gcd = rw size at c.common_divisor-divisor.ensures in
    let back : to_z w128 (of_z w128 c.with_sign.result) ≡ c.with_sign.result = search rules in
    let signed = rw (given, size) at c.with_sign.ensures in
    let below : to_z w128 (c.args.denominator / c.common_divisor-divisor.result) ≡ pos (c.args.denominator / c.common_divisor-divisor.result) = search rules in
    reduced_same c.args.numerator _ c.args.denominator c.common_divisor-divisor.result _ gcd (back ∙ signed) below

pub returns-clause-positive : goal.returns-clause-positive
returns-clause-positive c =
    let below : to_z w128 (c.args.denominator / c.common_divisor-divisor.result) ≡ pos (c.args.denominator / c.common_divisor-divisor.result) = search rules in
    let some = some_below _ _ _ c.requires.some c.common_divisor-divisor.ensures in
    rw below (omega (arith, ints))

pub returns-clause-lowest : goal.returns-clause-lowest
returns-clause-lowest c =
    let given : to_z w128 (of_z w128 c.args.numerator) ≡ c.args.numerator = search rules in
    let size : c.unsigned_abs-above.result ≡ unsigned_abs c.args.numerator = rw given at c.unsigned_abs-above.ensures.value in
    let gcd = rw size at c.common_divisor-divisor.ensures in
    let back : to_z w128 (of_z w128 c.with_sign.result) ≡ c.with_sign.result = search rules in
    let signed = rw (given, size) at c.with_sign.ensures in
    let below : to_z w128 (c.args.denominator / c.common_divisor-divisor.result) ≡ pos (c.args.denominator / c.common_divisor-divisor.result) = search rules in
    reduced_lowest c.args.numerator _ c.args.denominator c.common_divisor-divisor.result _ c.requires.some gcd (back ∙ signed) below
