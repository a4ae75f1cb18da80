use Rattle.std.proofs.Common.{refl, sym}
use Rattle.std.proofs.Output.{has_written_append, has_written_of_eq}
use Rattle.parse_lines.proofs.UsageLemmas.{usages-none, usages-one, usages_more, usages_all}
use Rattle.parse_lines.proofs.print.UsagesDisplay.fmt.Goals as goal

pub returns-in_default-clause-writes : goal.returns-in_default-clause-writes
returns-in_default-clause-writes g c = λ plain ok.
    has_written_of_eq _ _ _ _ _ (sym (usages-none c.args.self.now.0.now c.in_default.ensures.cases)) (c.write_str.ensures.writes plain ok)

pub loop-next-init : goal.loop-next-init
loop-next-init g c = λ plain.
    has_written_of_eq _ _ _ _ _ (sym (usages-one _ _ _ c.in-Some.ensures.cases)) (c.in_ok-write.ensures.writes plain refl)

pub loop-next-preserved : goal.loop-next-preserved
loop-next-preserved g c = λ plain.
    let before = c.loop-next.invariant plain in
    has_written_of_eq _ _ _ _ _ (usages_more _ _ _ _ _ c.in-Some.ensures.cases c.loop-next-test.true)
    (has_written_append _ _ _ _ _ _ before (c.in_ok-write-2.ensures.writes before.plain refl))

pub returns-clause-writes : goal.returns-clause-writes
returns-clause-writes g c = λ plain ok.
    has_written_of_eq _ _ _ _ _ (usages_all _ _ _ _ c.in-Some.ensures.cases c.loop-next-test.false) (c.loop-next.invariant plain)
