use Rattle.std.proofs.Common.{◌≡◌, ap, ◌∙◌}
use Rattle.control_ep.specs.Answers.{verdict_answer, checked_answer}
use Rattle.control_ep.specs.Written.{out_answer}
use Rattle.control_ep.proofs.Next.{feature_due, next_verdict}
use Rattle.control_ep.proofs.endpoint.ControlEp.judged.Goals as goal

pub returns-clause-refines : goal.returns-clause-refines
returns-clause-refines c past refines offered =
    let due = feature_due past c.args.self.now refines offered in
    let answer : out_answer c.apply_verdict.result ≡ checked_answer c.args.verdict = c.apply_verdict.ensures.answer ∙ ap (λ s. verdict_answer s c.args.verdict) due in
    rw c.apply_verdict.ensures.left (next_verdict past c.args.self.now c.args.verdict (out_answer c.apply_verdict.result) refines offered answer)
