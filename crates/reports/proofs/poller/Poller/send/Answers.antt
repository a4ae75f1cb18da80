use Rattle.std.proofs.Common.{◌≡◌, ℕ, List, true, false, is_none, slice_get, drop, sym, ap, ◌∙◌}
use Rattle.reports.specs.Queue.{queue}
use Rattle.reports.proofs.Made.{queue-poll_none, get_none, get_some}
use Rattle.reports.proofs.Rule.{answer-front, answer-rule}
use Rattle.reports.proofs.Waiting.{queue-poll}
use Rattle.reports.proofs.poller.Poller.send.Goals as goal

pub returns-then-is_empty-clause-refines : goal.returns-then-is_empty-clause-refines
returns-then-is_empty-clause-refines c past s =
    let h = rw (← c.self.view_is) at s in
    let e : is_none (slice_get (queue past) 0) ≡ true = rw h.queue at (sym c.is_empty.ensures ∙ c.if-is_empty.true) in
    record {
      rule = c.send_due.ensures.rule past s.rule;
      queue = c.send_due.ensures.queue ∙ s.queue ∙ queue-poll_none past c.args.protocol _ e;
    }

pub returns-then-is_empty-clause-answer : goal.returns-then-is_empty-clause-answer
returns-then-is_empty-clause-answer c past bytes m s =
    let h = rw (← c.self.view_is) at s in
    let e : is_none (slice_get (queue past) 0) ≡ true = rw h.queue at (sym c.is_empty.ensures ∙ c.if-is_empty.true) in
    c.send_due.ensures.answer past bytes m s.rule ∙ answer-rule c.args.protocol bytes past (get_none (queue past) e)

pub returns-else-is_empty-clause-refines : goal.returns-else-is_empty-clause-refines
returns-else-is_empty-clause-refines c past s = record {
  rule = c.send_front.ensures.rule past c.args.protocol s.rule;
  queue = c.send_front.ensures.queue ∙ ap (λ (q : List (List ℕ)). drop 1 q) s.queue ∙ sym (queue-poll past c.args.protocol _);
}

pub returns-else-is_empty-clause-answer : goal.returns-else-is_empty-clause-answer
returns-else-is_empty-clause-answer c past bytes m s =
    let h = rw (← c.self.view_is) at s in
    let e : is_none (slice_get (queue past) 0) ≡ false = rw h.queue at (sym c.is_empty.ensures ∙ c.if-is_empty.false) in
    let front = get_some (queue past) e in
    c.send_front.ensures.front ∙ ap (λ (q : List (List ℕ)). slice_get q 0) s.queue ∙ front.1 ∙ answer-front c.args.protocol bytes past front.0 front.1
