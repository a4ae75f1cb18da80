use Rattle.kbsim.proofs.OutputLemmas.{mapped_err, stopped_none, stopped_some}
use Rattle.kbsim.proofs.run.perform.Goals as goal

pub returns-in_err-world-clause-stopped : goal.returns-in_err-world-clause-stopped
returns-in_err-world-clause-stopped g c is = stopped_none c.args.flash c.args.lines.now _

pub returns-clause-stopped : goal.returns-clause-stopped
returns-clause-stopped g c is =
    let ended = mapped_err _ _ _ _ c.map.ensures.cases c.map.ensures.variant is in
    stopped_some _ _ _ _ (c.run_each-ended.ensures.stopped ended c.args.flash c.in_ok-world.ensures.starts)
