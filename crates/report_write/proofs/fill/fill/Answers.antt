use Rattle.std.proofs.Common.{◌∙◌, refl}
use Rattle.std.proofs.lemmas.Result.{err_from_is_err_and}
use Rattle.report_write.proofs.FilledHeld.{none_filled, one_filled, never_empty}
use Rattle.report_write.proofs.fill.fill.Goals as goal

pub loop-number-init : goal.loop-number-init
loop-number-init c = record { filled = none_filled c.args.descriptor.now c.args.kept.now c.args.bytes.now; long = refl }

pub returns-in_err-fill_field-clause-refused : goal.returns-in_err-fill_field-clause-refused
returns-in_err-fill_field-clause-refused c =
    let p = err_from_is_err_and c.from_residual.result c.from_residual.ensures.1 in
    let r = c.in_err-fill_field.ensures.refused in
    rw (p.1, p.2) (
      _,
      r.0,
      never_empty c.args.descriptor.now c.args.kept.now c.args.bytes.now c.loop-number.number _ c.loop-number.bytes
          c.loop-number.invariant.filled c.loop-number-test.true r.1,
    )

pub loop-number-preserved : goal.loop-number-preserved
loop-number-preserved c =
    let t = c.in_ok-fill_field.ensures in
    record {
      filled = one_filled c.args.descriptor.now c.args.kept.now c.args.bytes.now c.loop-number.number _ c.loop-number.bytes c.fill_field.new.bytes
          c.loop-number.invariant.filled c.loop-number-test.true t.taken t.filled;
      long = t.long ∙ c.loop-number.invariant.long;
    }
