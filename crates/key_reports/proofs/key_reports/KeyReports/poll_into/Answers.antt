use Rattle.reports.specs.Calls.{polled}
use Rattle.reports.proofs.Made.{is_made, same_made}
use Rattle.key_reports.specs.Past.{wanted_after, poller_calls}
use Rattle.key_reports.proofs.Standing.{refines-asked, answer_is}
use Rattle.key_reports.proofs.key_reports.KeyReports.poll_into.Goals as goal

pub returns-clause-refines : goal.returns-clause-refines
returns-clause-refines c past s =
    let h = rw (← c.self.view_is) at s in
    refines-asked past (polled c.args.protocol _) (record { debouncer = c.self.inside.matrix; held = c.self.inside.held; poller = c.self.inside.poller }) c.poll_into.new.self h
    (λ calls p. c.poll_into.ensures.refines calls (c.make_for.ensures.refines calls p))
    (same_made _ _ _ c.poll_into.ensures.made (is_made c.args.protocol _ _ (c.make_for.ensures.made past h.held h.made)))

pub returns-clause-answer : goal.returns-clause-answer
returns-clause-answer c past s =
    let h = rw (← c.self.view_is) at s in
    answer_is past c.args.protocol _
    (c.poll_into.ensures.answer (poller_calls past) (wanted_after past) (c.make_for.ensures.made past h.held h.made) (c.make_for.ensures.refines (poller_calls past) h.poller))
