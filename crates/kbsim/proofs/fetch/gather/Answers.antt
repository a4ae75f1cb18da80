use Rattle.std.proofs.Common.{rules}
use Rattle.kbsim.specs.Fetches.{IsGathered}
use Rattle.kbsim.proofs.FetchLemmas.{gathered_none, gathered_more, gathered_all, cut_short, never_full}
use Rattle.kbsim.proofs.fetch.gather.Goals as goal

pub loop-full-init : goal.loop-full-init
loop-full-init g c = gathered_none _ _ _ c.in_ok-open.ensures

pub returns-in_default : goal.returns-in_default
returns-in_default g c = cut_short _ _ _ _ _ c.loop-full.invariant c.in_ok-answer.ensures c.in_default.ensures

pub returns-then-length-lt8 : goal.returns-then-length-lt8
returns-then-length-lt8 g c =
    let (packet, is, count, most) = c.in-Some.ensures in
    gathered_all _ _ _ _ _ _ packet c.loop-full.invariant c.in_ok-answer.ensures is (search rules) (search rules)

pub loop-full-preserved : goal.loop-full-preserved
loop-full-preserved g c =
    let (packet, is, count, most) = c.in-Some.ensures in
    gathered_more _ _ _ _ _ packet c.loop-full.invariant c.in_ok-answer.ensures is (search rules)

pub returns : goal.returns
returns g c = never_full (IsGathered _) _ _ _ (search rules) c.loop-full.invariant
