use Rattle.std.proofs.Common.{rules, length, not, arith, ap}
use Rattle.std.proofs.lemmas.Grind.{common_steps}
use Rattle.std.proofs.lemmas.List.Sums.{prefix_len-le-length}
use Rattle.std.specs.Prelude.{◌==◌}
use Rattle.script.proofs.LineLemmas.{line_step, last_step}
use Rattle.script.proofs.lines.LinesIterator.next.Goals as goal

pub split_at-requires : goal.split_at-requires
split_at-requires c = rw c.line_end.ensures (prefix_len-le-length (λ b. not (b == 10)) c.args.self.now.rest.now)

pub returns-in-Some-clause-steps : goal.returns-in-Some-clause-steps
returns-in-Some-clause-steps c =
    rw c.without_return.ensures (line_step c.args.self.now.rest.now c.split_at.result.0.now c.split_at.result.1.now c.in-Some.rest.now c.line_end.result c.in-Some.field-0-0.now
    c.line_end.ensures c.split_at.ensures.front c.split_at.ensures.back c.in-Some.ensures.cases.0)

pub returns-in-Some-clause-goes : goal.returns-in-Some-clause-goes
returns-in-Some-clause-goes c =
    let steps = returns-in-Some-clause-steps c in
    search (rules, ap length steps)

pub returns-else-is_empty-clause-steps : goal.returns-else-is_empty-clause-steps
returns-else-is_empty-clause-steps c =
    last_step c.args.self.now.rest.now c.split_at.result.0.now c.split_at.result.1.now c.line_end.result
    c.line_end.ensures c.split_at.ensures.front c.split_at.ensures.back (search rules) (grind (arith, common_steps))
