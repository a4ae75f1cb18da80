use Rattle.std.proofs.lemmas.Result.{err_from_is_err_and}
use Rattle.report_write.proofs.SettingsSet.{before_all, after_next, refused_next}
use Rattle.report_write.proofs.writing.set_all.Goals as goal

pub loop-number-init : goal.loop-number-init
loop-number-init c = (before_all c.args.descriptor.now c.args.kept.now c.args.settings.now c.args.bytes.now c.args.marks.now c.requires.beside, c.requires.known)

pub set-requires-clause-known : goal.set-requires-clause-known
set-requires-clause-known c = c.loop-number.invariant.1

pub returns-in_err-set-clause-refused : goal.returns-in_err-set-clause-refused
returns-in_err-set-clause-refused c =
    let p = err_from_is_err_and c.from_residual.result c.from_residual.ensures.1 in
    rw (p.1, p.2) (refused_next c.args.descriptor.now c.args.kept.now c.args.settings.now c.args.bytes.now c.args.marks.now c.loop-number.number _
    c.loop-number.bytes c.loop-number.marks c.in_err-set.field-0.0 c.loop-number.invariant.0 c.loop-number-test.true c.in_err-set.ensures.refused)

pub loop-number-preserved : goal.loop-number-preserved
loop-number-preserved c = (
  after_next c.args.descriptor.now c.args.kept.now c.args.settings.now c.args.bytes.now c.args.marks.now c.loop-number.number _
      c.loop-number.bytes c.set.new.bytes c.loop-number.marks c.set.new.marks c.loop-number.invariant.0 c.loop-number-test.true
      c.in_ok-set.ensures.taken c.in_ok-set.ensures.set c.in_ok-set.ensures.long c.in_ok-set.ensures.marks,
  c.in_ok-set.ensures.known,
)
