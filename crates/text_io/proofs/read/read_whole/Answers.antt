use Rattle.std.proofs.Common.{rules}
use Rattle.text_io.proofs.ReadLemmas.{read_more}
use Rattle.text_io.proofs.read.read_whole.Goals as goal

pub returns-then-count-left-clause-few : goal.returns-then-count-left-clause-few
returns-then-count-left-clause-few g c =
    read_more c.args.most _ _ _ _ _ c.in-Ok.count c.loop-count.invariant c.in-Ok.ensures.bytes.0 (search rules) (search rules)

pub returns-then-is_err-clause-few : goal.returns-then-is_err-clause-few
returns-then-is_err-clause-few g c =
    read_more c.args.most _ _ _ _ _ c.in-Ok.count c.loop-count.invariant c.in-Ok.ensures.bytes.0 (search rules) (search rules)
