use Rattle.std.proofs.Common.{rules, refl}
use Rattle.std.proofs.Output.{has_written_append, has_written_of_eq}
use Rattle.kbsim.proofs.PrintLemmas.{shown_usages-nil, shown_usages_more}
use Rattle.kbsim.proofs.print.UsagesDisplay.fmt.Goals as goal

pub loop-usage-init : goal.loop-usage-init
loop-usage-init g c = rw shown_usages-nil (search rules)

pub loop-usage-preserved : goal.loop-usage-preserved
loop-usage-preserved g c = λ plain.
    let before = c.loop-usage.invariant plain in
    has_written_of_eq _ _ _ _ _ (shown_usages_more _ _ (search rules)) (has_written_append _ _ _ _ _ _ before (c.in_ok-write.ensures.writes before.plain refl))
