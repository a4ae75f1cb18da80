-- What stands after one more call, whatever it is.
use Rattle.std.proofs.Common.{◌≡◌, ℕ, true, List, [], ◌∷◌, Option, Some, None, Result, Ok, Err, refl, sym, ap, ◌∙◌}
use Rattle.control_ep.specs.declared.why.Why.{Why}
use Rattle.control_ep.specs.declared.why.Why.TheVariants.{WrongStage}
use Rattle.control_ep.specs.declared.answer.EpAnswer.{EpAnswer}
use Rattle.control_ep.specs.declared.answer.OutStep.{OutStep}
use Rattle.control_ep.specs.declared.answer.OutStep.TheVariants.{Answered, Leds, Offer}
use Rattle.control_ep.specs.declared.answer.Verdict.{Verdict}
use Rattle.control_ep.specs.declared.answer.Verdict.TheVariants.{Done, Working, Busy, Refused}
use Rattle.control_ep.specs.declared.answer.Effect.{Effect}
use Rattle.control_ep.specs.declared.answer.Effect.TheVariants.{Nothing}
use Rattle.control_ep.specs.declared.answer.DeviceView.{DeviceView}
use Rattle.control_ep.specs.Transfers.{HostReport, LedsWithId, LedsAlone, FeatureData, Transfer, Stage, Rest, Sending, Taking, Waiting, Status, Stalled}
use Rattle.control_ep.specs.Requests.{request_of, transfer_of}
use Rattle.control_ep.specs.Calls.{EpCall, Setup, Out, Checked, In, Settle, Fail, Reset}
use Rattle.control_ep.specs.Packets.{packet_at}
use Rattle.control_ep.specs.Stage.{outcome_of, progress_of, stage_with, stage}
use Rattle.control_ep.specs.Answers.{in_answer, in_effect, received_report, report_step, out_step, checked_answer, packet_or_stall}
use Rattle.control_ep.specs.Moves.{begun, after_in, after_out, after_verdict, stage_then}
use Rattle.control_ep.specs.Relation.{is_offered, IsAnswered, AllAnswered}
use Rattle.control_ep.specs.representation.Relation.{Refines}
use Rattle.control_ep.proofs.Moves.{in_stalled, in_sent, in_confirmed, in_waiting, out_stalled, out_closed, out_leds, out_offered, checked_done, checked_working, checked_busy, checked_refused, settled, failed}
use Rattle.control_ep.proofs.Clean.{received_is, offers, offered_feature}

pub next_setup : (past : List EpCall) (s : Stage) (setup : List ℕ) (view : DeviceView) → Refines past s
    → Refines (Setup setup view ∷ past) (begun setup view)
unfolding stage
next_setup past s setup view h = record { answered = (tt, h.answered); stage = refl }

-- the stage that a request's transfer begins in, or stalled
pub begun_by : (setup : List ℕ) (view : DeviceView) (transfer : Result Transfer Why) → transfer_of (request_of setup) view ≡ transfer
    → stage_with (outcome_of transfer (request_of setup).length) (progress_of []) ≡ begun setup view
begun_by setup view transfer e = rw (← e) refl

-- an IN packet of a read
sent_or_stalled : (past : List EpCall) (bytes : List ℕ) (asked sent : ℕ) (packet : Option (List ℕ)) → Refines past (Sending bytes asked sent)
    → packet_at bytes asked sent ≡ packet
    → Refines (In (packet_or_stall packet) Nothing ∷ past) (after_in (Sending bytes asked sent) (packet_or_stall packet))
sent_or_stalled past bytes asked sent (Some packet) h e = in_sent past bytes asked sent (record { items = packet }) h e
sent_or_stalled past bytes asked sent None h e = in_stalled past (Sending bytes asked sent) WrongStage h (ap packet_or_stall e) refl

pub next_in : (past : List EpCall) (s : Stage) (answer : EpAnswer) (effect : Effect) → Refines past s → answer ≡ in_answer s → effect ≡ in_effect s
    → Refines (In answer effect ∷ past) (after_in s answer)
next_in past (Sending bytes asked sent) answer effect h a e = rw (a, e) (sent_or_stalled past bytes asked sent (packet_at bytes asked sent) h refl)
next_in past (Status due) answer effect h a e = rw (a, e) (in_confirmed past due h)
next_in past Waiting answer effect h a e = rw (a, e) (in_waiting past h)
next_in past (Stalled why) answer effect h a e = rw (a, e) (in_stalled past (Stalled why) why h refl refl)
next_in past Rest answer effect h a e = rw (a, e) (in_stalled past Rest WrongStage h refl refl)
next_in past (Taking kind) answer effect h a e = rw (a, e) (in_stalled past (Taking kind) WrongStage h refl refl)

not_answered : (kind : HostReport) (packet : List ℕ) (answer : EpAnswer) → received_report kind packet ≡ Ok (Answered answer) → ⊥
not_answered LedsWithId packet answer e = let c = received_is LedsWithId packet (Answered answer) e in cc
not_answered LedsAlone packet answer e = let c = received_is LedsAlone packet (Answered answer) e in cc
not_answered FeatureData packet answer e = let c = received_is FeatureData packet (Answered answer) e in cc

-- only a feature report that is due is offered
pub offer_due : (s : Stage) (packet bytes : List ℕ) → Offer bytes ≡ out_step s packet → s ≡ Taking FeatureData
offer_due = offers

-- an OUT packet where a report is due
received : (past : List EpCall) (kind : HostReport) (packet : List ℕ) (report : Result OutStep Why) → Refines past (Taking kind)
    → received_report kind packet ≡ report → Refines (Out packet (report_step report) ∷ past) (after_out (Taking kind) (report_step report))
received past kind packet (Err why) h e = out_stalled past (Taking kind) packet why h (ap report_step e)
received past kind packet (Ok (Leds leds)) h e = out_leds past kind packet leds h e
received past kind packet (Ok (Offer bytes)) h e = out_offered past kind packet bytes h e
received past kind packet (Ok (Answered answer)) h e = absurd (not_answered kind packet answer e)

pub next_out : (past : List EpCall) (s : Stage) (packet : List ℕ) (step : OutStep) → Refines past s → step ≡ out_step s packet
    → Refines (Out packet step ∷ past) (after_out s step)
next_out past (Sending bytes asked sent) [] step h a = rw a (out_closed past bytes asked sent h)
next_out past (Sending bytes asked sent) (x ∷ xs) step h a = rw a (out_stalled past (Sending bytes asked sent) (x ∷ xs) WrongStage h refl)
next_out past (Taking kind) packet step h a = rw a (received past kind packet (received_report kind packet) h refl)
next_out past (Stalled why) packet step h a = rw a (out_stalled past (Stalled why) packet why h refl)
next_out past Rest packet step h a = rw a (out_stalled past Rest packet WrongStage h refl)
next_out past (Status effect) packet step h a = rw a (out_stalled past (Status effect) packet WrongStage h refl)
next_out past Waiting packet step h a = rw a (out_stalled past Waiting packet WrongStage h refl)

-- a verdict on an offer
checked : (past : List EpCall) (verdict : Verdict) → Refines past (Taking FeatureData) → is_offered past ≡ true
    → Refines (Checked verdict (checked_answer verdict) ∷ past) (after_verdict (Taking FeatureData) verdict)
checked past Done h o = checked_done past (Taking FeatureData) h o
checked past Working h o = checked_working past (Taking FeatureData) h o
checked past Busy h o = checked_busy past (Taking FeatureData) h o
checked past (Refused why) h o = checked_refused past (Taking FeatureData) why h o

pub feature_due : (past : List EpCall) (s : Stage) → Refines past s → is_offered past ≡ true → s ≡ Taking FeatureData
feature_due past s h o = h.stage ∙ offered_feature past h.answered o

pub next_verdict : (past : List EpCall) (s : Stage) (verdict : Verdict) (answer : EpAnswer) → Refines past s → is_offered past ≡ true → answer ≡ checked_answer verdict
    → Refines (Checked verdict answer ∷ past) (after_verdict s verdict)
next_verdict past s verdict answer h o a =
    let due = feature_due past s h o in
    rw (a, due) (checked past verdict (rw due at h) o)

pub next_reset : (past : List EpCall) (s : Stage) → Refines past s → Refines (Reset ∷ past) Rest
unfolding stage
next_reset past s h = record { answered = (tt, h.answered); stage = refl }

pub next : (past : List EpCall) (s : Stage) (call : EpCall) → Refines past s → IsAnswered past call → Refines (call ∷ past) (stage_then s call)
next past s (Setup setup view) h a = next_setup past s setup view h
next past s (Out packet step) h a = next_out past s packet step h (a ∙ ap (λ x. out_step x packet) (sym h.stage))
next past s (Checked verdict answer) h a = next_verdict past s verdict answer h a.0 a.1
next past s (In answer effect) h a = next_in past s answer effect h (a.0 ∙ ap in_answer (sym h.stage)) (a.1 ∙ ap in_effect (sym h.stage))
next past s Settle h a = settled past s h
next past s Fail h a = failed past s h
next past s Reset h a = next_reset past s h

pub stage_moves : (past : List EpCall) (call : EpCall) → AllAnswered (call ∷ past) → stage (call ∷ past) ≡ stage_then (stage past) call
stage_moves past call all = sym (next past (stage past) call (record { answered = all.1; stage = refl }) all.0).stage
