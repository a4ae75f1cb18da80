-- What stands after one more call, stage by stage.
use Rattle.std.proofs.Common.{◌≡◌, ◌≢◌, ℕ, ◌+◌, true, List, [], ◌∷◌, Some, Ok, refl, sym, ap, ◌∙◌}
use Rattle.control_ep.specs.declared.why.Why.{Why}
use Rattle.control_ep.specs.declared.why.Why.TheVariants.{FlashFault}
use Rattle.control_ep.specs.declared.answer.EpAnswer.TheVariants.{Ack, Nak, Packet, Stall}
use Rattle.control_ep.specs.declared.answer.OutStep.TheVariants.{Answered, Leds, Offer}
use Rattle.control_ep.specs.declared.answer.Verdict.TheVariants.{Done, Working, Busy, Refused}
use Rattle.control_ep.specs.declared.answer.Effect.{Effect}
use Rattle.control_ep.specs.declared.answer.Effect.TheVariants.{Nothing}
use Rattle.control_ep.specs.Transfers.{HostReport, FeatureData, Stage, Rest, Sending, Taking, Waiting, Status, Stalled}
use Rattle.control_ep.specs.Calls.{EpCall, Out, Checked, In, Settle, Fail}
use Rattle.control_ep.specs.Packets.{packet_at}
use Rattle.control_ep.specs.Stage.{calls_since, last_setup, first_stall, count_in, Settled, Failed, progress_of, stage}
use Rattle.control_ep.specs.Answers.{in_answer, in_effect, received_report, report_step, out_step}
use Rattle.arrayvec.specs.ArrayVec.{ArrayVec}
use Rattle.control_ep.specs.Moves.{after_end}
use Rattle.control_ep.specs.Relation.{is_offered}
use Rattle.control_ep.specs.representation.Relation.{Refines}
use Rattle.control_ep.proofs.Stages.{stage-is, stalled_again, stalled_again_out, sending_is, waiting_is, taking_is, status_confirmed, ended_others}
use Rattle.control_ep.proofs.Clean.{offered_taking, clean, taking_unconfirmed, waiting_unconfirmed}

pub in_stalled : (past : List EpCall) (s : Stage) (why : Why) → Refines past s → in_answer s ≡ Stall why → in_effect s ≡ Nothing
    → Refines (In (Stall why) Nothing ∷ past) (Stalled why)
unfolding stage
in_stalled past s why h a e =
    let again = stalled_again (first_stall (calls_since past)) (last_setup past) (progress_of (calls_since past)) why (ap in_answer (sym (h.stage ∙ stage-is past)) ∙ a) in
    record {
      answered = ((sym a ∙ ap in_answer h.stage, sym e ∙ ap in_effect h.stage), h.answered);
      stage = rw again refl;
    }

pub in_sent : (past : List EpCall) (x : List ℕ) (asked n : ℕ) (packet : ArrayVec ℕ) → Refines past (Sending x asked n)
    → packet_at x asked n ≡ Some packet.items → Refines (In (Packet packet) Nothing ∷ past) (Sending x asked (n + 1))
unfolding stage
in_sent past x asked n packet h p =
    let s = sending_is x asked n (first_stall (calls_since past)) (last_setup past) (progress_of (calls_since past)) (h.stage ∙ stage-is past) in
    let a : Packet packet ≡ in_answer (Sending x asked n) = rw p refl in
    record {
      answered = ((a ∙ ap in_answer h.stage, ap in_effect h.stage), h.answered);
      stage = rw (s.unstalled, s.begins, s.some, s.open_still, s.count) refl;
    }

pub in_confirmed : (past : List EpCall) (effect : Effect) → Refines past (Status effect)
    → Refines (In (Packet (record { items = [] })) effect ∷ past) Rest
unfolding stage
in_confirmed past effect h = record {
  answered = ((ap in_answer h.stage, ap in_effect h.stage), h.answered);
  stage =
      sym (status_confirmed effect (first_stall (calls_since past)) (last_setup past) (progress_of (calls_since past)) (count_in (calls_since past) + 1) (h.stage ∙ stage-is past));
}

pub in_waiting : (past : List EpCall) → Refines past Waiting → Refines (In Nak Nothing ∷ past) Waiting
unfolding stage
in_waiting past h =
    let w = waiting_is (first_stall (calls_since past)) (last_setup past) (progress_of (calls_since past)) (h.stage ∙ stage-is past) in
    record {
      answered = ((ap in_answer h.stage, ap in_effect h.stage), h.answered);
      stage = simp (w.unstalled, w.begins, w.is_taken, w.works);
    }

pub out_stalled : (past : List EpCall) (s : Stage) (packet : List ℕ) (why : Why) → Refines past s → out_step s packet ≡ Answered (Stall why)
    → Refines (Out packet (Answered (Stall why)) ∷ past) (Stalled why)
unfolding stage
out_stalled past s packet why h a =
    let again = stalled_again_out (first_stall (calls_since past)) (last_setup past) (progress_of (calls_since past)) packet why
    (ap (λ x. out_step x packet) (sym (h.stage ∙ stage-is past)) ∙ a) in
    record {
      answered = (sym a ∙ ap (λ x. out_step x packet) h.stage, h.answered);
      stage = rw again refl;
    }

pub out_closed : (past : List EpCall) (x : List ℕ) (asked n : ℕ) → Refines past (Sending x asked n) → Refines (Out [] (Answered Ack) ∷ past) Rest
unfolding stage
out_closed past x asked n h =
    let s = sending_is x asked n (first_stall (calls_since past)) (last_setup past) (progress_of (calls_since past)) (h.stage ∙ stage-is past) in
    record {
      answered = (ap (λ x. out_step x []) h.stage, h.answered);
      stage = rw (s.unstalled, s.begins, s.some) refl;
    }

pub out_leds : (past : List EpCall) (kind : HostReport) (packet : List ℕ) (leds : ℕ) → Refines past (Taking kind)
    → received_report kind packet ≡ Ok (Leds leds) → Refines (Out packet (Leds leds) ∷ past) (Status Nothing)
unfolding stage
out_leds past kind packet leds h r =
    let t = taking_is kind (first_stall (calls_since past)) (last_setup past) (progress_of (calls_since past)) (h.stage ∙ stage-is past) in
    let idle = (clean past h.answered).idle t.not_taken in
    let open_still = taking_unconfirmed past kind h.answered t in
    record {
      answered = (sym (ap report_step r) ∙ ap (λ x. out_step x packet) h.stage, h.answered);
      stage = rw (t.unstalled, t.begins, idle, open_still) refl;
    }

pub out_offered : (past : List EpCall) (kind : HostReport) (packet bytes : List ℕ) → Refines past (Taking kind)
    → received_report kind packet ≡ Ok (Offer bytes) → Refines (Out packet (Offer bytes) ∷ past) (Taking kind)
unfolding stage
out_offered past kind packet bytes h r =
    let t = taking_is kind (first_stall (calls_since past)) (last_setup past) (progress_of (calls_since past)) (h.stage ∙ stage-is past) in
    record {
      answered = (sym (ap report_step r) ∙ ap (λ x. out_step x packet) h.stage, h.answered);
      stage = rw (t.unstalled, t.begins, t.not_taken) refl;
    }

pub checked_done : (past : List EpCall) (s : Stage) → Refines past s → is_offered past ≡ true → Refines (Checked Done Ack ∷ past) (Status Nothing)
unfolding stage
checked_done past s h o =
    let t = offered_taking past h.answered o in
    let idle = (clean past h.answered).idle t.not_taken in
    let open_still = taking_unconfirmed past FeatureData h.answered t in
    record {
      answered = ((o, refl), h.answered);
      stage = rw (t.unstalled, t.begins, idle, open_still) refl;
    }

pub checked_working : (past : List EpCall) (s : Stage) → Refines past s → is_offered past ≡ true → Refines (Checked Working Ack ∷ past) Waiting
unfolding stage
checked_working past s h o =
    let t = offered_taking past h.answered o in
    record {
      answered = ((o, refl), h.answered);
      stage = rw (t.unstalled, t.begins) refl;
    }

pub checked_busy : (past : List EpCall) (s : Stage) → Refines past s → is_offered past ≡ true → Refines (Checked Busy Nak ∷ past) s
unfolding stage
checked_busy past s h o =
    let t = offered_taking past h.answered o in
    let was : s ≡ Taking FeatureData = h.stage ∙ stage-is past ∙ rw (t.unstalled, t.begins, t.not_taken) refl in
    record {
      answered = ((o, refl), h.answered);
      stage = was ∙ rw (t.unstalled, t.begins, t.not_taken) refl;
    }

pub checked_refused : (past : List EpCall) (s : Stage) (why : Why) → Refines past s → is_offered past ≡ true
    → Refines (Checked (Refused why) (Stall why) ∷ past) (Stalled why)
unfolding stage
checked_refused past s why h o =
    let t = offered_taking past h.answered o in
    record {
      answered = ((o, refl), h.answered);
      stage = rw t.unstalled refl;
    }

settled_waiting : (past : List EpCall) → Refines past Waiting → Refines (Settle ∷ past) (Status Nothing)
unfolding stage
settled_waiting past h =
    let w = waiting_is (first_stall (calls_since past)) (last_setup past) (progress_of (calls_since past)) (h.stage ∙ stage-is past) in
    let open_still = waiting_unconfirmed past h.answered w in
    record {
      answered = (tt, h.answered);
      stage = simp (w.unstalled, w.begins, w.is_taken, w.works, open_still);
    }

settled_others : (past : List EpCall) (s : Stage) → Refines past s → s ≢ Waiting → Refines (Settle ∷ past) s
unfolding stage
settled_others past s h n =
    let was = h.stage ∙ stage-is past in
    record {
      answered = (tt, h.answered);
      stage = was ∙ sym (ended_others (first_stall (calls_since past)) (last_setup past) (progress_of (calls_since past)) Settled (λ e. n (was ∙ sym e)));
    }

failed_waiting : (past : List EpCall) → Refines past Waiting → Refines (Fail ∷ past) (Stalled FlashFault)
unfolding stage
failed_waiting past h =
    let w = waiting_is (first_stall (calls_since past)) (last_setup past) (progress_of (calls_since past)) (h.stage ∙ stage-is past) in
    record {
      answered = (tt, h.answered);
      stage = simp (w.unstalled, w.begins, w.is_taken, w.works);
    }

failed_others : (past : List EpCall) (s : Stage) → Refines past s → s ≢ Waiting → Refines (Fail ∷ past) s
unfolding stage
failed_others past s h n =
    let was = h.stage ∙ stage-is past in
    record {
      answered = (tt, h.answered);
      stage = was ∙ sym (ended_others (first_stall (calls_since past)) (last_setup past) (progress_of (calls_since past)) Failed (λ e. n (was ∙ sym e)));
    }

pub settled : (past : List EpCall) (s : Stage) → Refines past s → Refines (Settle ∷ past) (after_end s (Status Nothing))
settled past Waiting h = settled_waiting past h
settled past Rest h = settled_others past Rest h (λ q. cc)
settled past (Sending bytes asked sent) h = settled_others past (Sending bytes asked sent) h (λ q. cc)
settled past (Taking taken) h = settled_others past (Taking taken) h (λ q. cc)
settled past (Status effect) h = settled_others past (Status effect) h (λ q. cc)
settled past (Stalled why) h = settled_others past (Stalled why) h (λ q. cc)

pub failed : (past : List EpCall) (s : Stage) → Refines past s → Refines (Fail ∷ past) (after_end s (Stalled FlashFault))
failed past Waiting h = failed_waiting past h
failed past Rest h = failed_others past Rest h (λ q. cc)
failed past (Sending bytes asked sent) h = failed_others past (Sending bytes asked sent) h (λ q. cc)
failed past (Taking taken) h = failed_others past (Taking taken) h (λ q. cc)
failed past (Status effect) h = failed_others past (Status effect) h (λ q. cc)
failed past (Stalled why) h = failed_others past (Stalled why) h (λ q. cc)

pub nothing_begun : Refines [] Rest
unfolding stage
nothing_begun = record { answered = tt; stage = refl }
