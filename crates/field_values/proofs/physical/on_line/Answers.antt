use Rattle.std.proofs.Common.{◌≡◌, refl, ◌∙◌, arith, to_z, of_z, w64, rules}
use Rattle.std.specs.Int.{w128}
use Rattle.std.specs.Prelude.{◌+ℤ◌, ◌-ℤ◌, ◌*ℤ◌}
use Rattle.std.proofs.Math.IntN.{*ℤ_comm}
use Rattle.std.proofs.lemmas.Int.{fits_signed_from_abs, to_z-of_z}
use Rattle.field_values.proofs.Fractions.{sum_few}
use Rattle.field_values.proofs.physical.on_line.Goals as goal

pub overflow_add-result : goal.overflow_add-result
overflow_add-result c =
    let least : to_z w128 (of_z w128 c.product-least.result) ≡ c.product-least.result = search rules in
    let above : to_z w128 (of_z w128 c.product-above.result) ≡ c.product-above.result = search rules in
    let few = sum_few c.product-least.result c.product-above.result c.product-least.ensures.few c.product-above.ensures.few in
    rw (least, above) (fits_signed_from_abs w128 (c.product-least.result +ℤ c.product-above.result) (omega arith))

pub returns-clause-line : goal.returns-clause-line
returns-clause-line c =
    let logical = c.args.logical in
    let physical = c.args.physical in
    let least : to_z w128 (of_z w128 c.product-least.result) ≡ c.product-least.result = search rules in
    let above : to_z w128 (of_z w128 c.product-above.result) ≡ c.product-above.result = search rules in
    let few = sum_few c.product-least.result c.product-above.result c.product-least.ensures.few c.product-above.ensures.few in
    let sum = to_z-of_z w128 (c.product-least.result +ℤ c.product-above.result)
    (fits_signed_from_abs w128 (c.product-least.result +ℤ c.product-above.result) (omega arith)) in
    let span : to_z w128 (of_z w128 c.difference.result) ≡ c.difference.result = search rules in
    let span_is : c.difference.result ≡ logical.max -ℤ logical.min = search rules in
    let over : to_z w128 (of_z w128 c.difference-2.result) ≡ c.difference-2.result = search rules in
    let over_is : c.difference-2.result ≡ c.args.value -ℤ logical.min = search rules in
    let lowest : to_z w64 (of_z w64 physical.min) ≡ physical.min = search rules in
    let range : to_z w64 (of_z w64 (to_z w64 (of_z w64 physical.max) -ℤ to_z w64 (of_z w64 physical.min))) ≡ physical.max -ℤ physical.min = search rules in
    let first : c.product-least.result ≡ physical.min *ℤ (logical.max -ℤ logical.min) = c.product-least.ensures.product ∙ rw (lowest, span, span_is) refl in
    let second : c.product-above.result ≡ (c.args.value -ℤ logical.min) *ℤ (physical.max -ℤ physical.min) =
    c.product-above.ensures.product ∙ rw (range, over, over_is) (*ℤ_comm (physical.max -ℤ physical.min) (c.args.value -ℤ logical.min)) in
    rw (least, above, sum, first, second) refl
