use Rattle.std.proofs.lemmas.Result.{err_from_is_err_and}
use Rattle.report_read.proofs.Asked.{never_memory}
use Rattle.report_read.proofs.difference.pressed.Goals as goal

pub returns-in_err-reading-clause-memory : goal.returns-in_err-reading-clause-memory
returns-in_err-reading-clause-memory c =
    let p = err_from_is_err_and c.from_residual.result c.from_residual.ensures.1 in
    rw (p.1, p.2) (λ m. absurd (never_memory c.args.reader.now.descriptor c.args.kind c.args.report.now c.in_err-reading.field-0.0 c.in_err-reading.ensures.refused m))

pub returns-in_err-reading-clause-wanted : goal.returns-in_err-reading-clause-wanted
returns-in_err-reading-clause-wanted c =
    let p = err_from_is_err_and c.from_residual.result c.from_residual.ensures.1 in
    rw (p.1, p.2) (λ m. absurd (never_memory c.args.reader.now.descriptor c.args.kind c.args.report.now c.in_err-reading.field-0.0 c.in_err-reading.ensures.refused m))
