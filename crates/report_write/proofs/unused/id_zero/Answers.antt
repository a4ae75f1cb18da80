use Rattle.std.proofs.Common.{◌≡◌, ◌∙◌, ap, sym, arith, rules, to_z, of_z, w64}
use Rattle.std.specs.Prelude.{pos, ◌+ℤ◌}
use Rattle.descriptor_parse.specs.Descriptor.{usage_list}
use Rattle.field_values.specs.Lists.{is_unused}
use Rattle.report_write.proofs.UnusedLemmas.{none_zero, none_zero_more, zero_first, never_zero}
use Rattle.report_write.proofs.unused.id_zero.Goals as goal
use Rattle.report_write.proofs.unused.id_zero.Goals.{then-declared-range-eq0+else-is_unused, else-declared-range-eq0}

pub loop-range-init : goal.loop-range-init
loop-range-init c = none_zero c.args.declared.now.field c.args.declared.now.ranges.now

pub returns-then-is_unused : goal.returns-then-is_unused
returns-then-is_unused c =
    let field = c.args.declared.now.field in
    let value : to_z w64 (of_z w64 (to_z w64 (of_z w64 field.min) +ℤ to_z w64 c.first_place.result)) ≡ field.min +ℤ pos c.first_place.result = search rules in
    zero_first field c.args.declared.now.ranges.now c.loop-range.range _ c.requires.1.in_order (omega arith) c.if-declared-range-eq0.true
    (value ∙ ap (λ n. field.min +ℤ pos n) c.first_place.ensures) (sym c.is_unused.ensures ∙ c.if-is_unused.true) c.loop-range.invariant

pub loop-range-preserved : goal.loop-range-preserved
loop-range-preserved c =
    let field = c.args.declared.now.field in
    none_zero_more field c.args.declared.now.ranges.now c.loop-range.range c.requires.1.in_order (omega arith)
    (λ zero. elim c.if-declared-range-eq0.branch [
      | then-declared-range-eq0+else-is_unused w ↦ (
          let value : to_z w64 (of_z w64 (to_z w64 (of_z w64 field.min) +ℤ to_z w64 w.first_place.result)) ≡ field.min +ℤ pos w.first_place.result = search rules in
          sym (ap (is_unused field (usage_list c.args.declared.now.ranges.now)) (value ∙ ap (λ n. field.min +ℤ pos n) w.first_place.ensures))
          ∙ (sym w.is_unused.ensures ∙ w.if-is_unused.false))
      | else-declared-range-eq0 w ↦ absurd (w.if-declared-range-eq0.false zero)
    ]) c.loop-range.invariant

pub returns : goal.returns
returns c = never_zero c.args.declared.now.field c.args.declared.now.ranges.now c.loop-range.range (omega arith) c.loop-range.invariant
