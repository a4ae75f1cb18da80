use Rattle.std.proofs.Common.{arith}
use Rattle.descriptor_parse.proofs.CountLemmas.{found_none, found_first}
use Rattle.descriptor_parse.proofs.counts.nth_usage.Goals as goal

pub returns-in_default : goal.returns-in_default
returns-in_default c = found_none c.args.ranges.now c.args.counts.now 0 c.args.number c.requires (omega arith) (omega (arith, c.in_default.len_below)) (omega arith)

pub returns-then-number-last : goal.returns-then-number-last
returns-then-number-last c = found_first c.args.ranges.now c.args.number c.in-len1-up.len_at_least c.if-first-last.true c.if-number-last.true
