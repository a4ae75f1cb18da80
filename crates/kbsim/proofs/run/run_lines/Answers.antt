use Rattle.std.proofs.Common.{rules, ◌≡◌, Err, ap}
use Rattle.std.proofs.KnownBytes.{Appends-trans}
use Rattle.kbsim.specs.declared.fault.RunError.TheVariants as error
use Rattle.kbsim.proofs.OutputLemmas.{error_reported}
use Rattle.kbsim.proofs.run.run_lines.Goals as goal

pub returns-in-Err-clause-stopped : goal.returns-in-Err-clause-stopped
returns-in-Err-clause-stopped g c e =
    let m : c.tell.result ≡ error.Memory = cc in
    let (is, shown) = error_reported c.tell.result c.in-Err.error c.tell.ensures.outcome m in
    let (count, text, after, fewer, run, appends) = c.in-Err.ensures.stopped (ap Err is) in
    let reported = rw is at c.tell.ensures.printed shown in
    let both = Appends-trans _ _ _ text _ appends reported in
    (count, text, after, fewer, run, search (rules, both))
