use Rattle.std.proofs.Common.{◌≡◌, ◌∙◌, ap, to_z, of_z, w64, rules}
use Rattle.std.specs.Int.{w128}
use Rattle.std.specs.Prelude.{pos, int_lt, ◌-ℤ◌, ◌*ℤ◌, false}
use Rattle.field_values.proofs.Fractions.{natural_is}
use Rattle.field_values.proofs.physical.physical_value.Goals as goal

pub returns-clause-exact : goal.returns-clause-exact
returns-clause-exact c =
    let logical = c.args.logical in
    let most : to_z w64 (of_z w64 logical.max) ≡ logical.max = search rules in
    let least : to_z w64 (of_z w64 logical.min) ≡ logical.min = search rules in
    let rising : int_lt logical.max logical.min ≡ false = rw (most, least) at c.if-logical-2.false in
    let size = rw (most, least) at c.abs_diff.ensures in
    let span : pos c.abs_diff.result ≡ logical.max -ℤ logical.min = ap pos size ∙ natural_is logical.min logical.max rising in
    let number : to_z w128 (of_z w128 c.on_line-numerator.result) ≡ c.on_line-numerator.result = search rules in
    let same = rw (span, number) at c.reduced.ensures.same in
    let given : to_z w64 (of_z w64 c.args.value) ≡ c.args.value = search rules in
    let line = rw given at c.on_line-numerator.ensures.line in
    record {
      positive = c.reduced.ensures.positive;
      line = same ∙ ap (λ n. n *ℤ c.reduced.result.denominator) line;
      lowest = c.reduced.ensures.lowest;
    }

pub returns-clause-exponent : goal.returns-clause-exponent
returns-clause-exponent c = search rules
