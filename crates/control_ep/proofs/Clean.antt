-- What holds of the look-backs where each call was answered by the tables.
use Rattle.std.proofs.Common.{◌≡◌, ◌≢◌, ℕ, ◌||◌, not, nat_lt, if◌then◌else◌, length, Bool, true, false, cond, List, [], ◌∷◌, Option, Some, None, Result, Ok, Err, refl, sym, ap, ◌∙◌}
use Rattle.std.specs.List.{list_any}
use Rattle.control_ep.specs.declared.why.Why.TheVariants.{UnknownReport, ShortData, LongData}
use Rattle.control_ep.specs.declared.answer.OutStep.{OutStep}
use Rattle.control_ep.specs.Requests.{length_of, id_of}
use Rattle.control_ep.specs.declared.why.Why.{Why}
use Rattle.control_ep.specs.declared.answer.EpAnswer.{EpAnswer}
use Rattle.control_ep.specs.declared.answer.OutStep.TheVariants.{Offer}
use Rattle.control_ep.specs.declared.answer.Verdict.{Verdict}
use Rattle.control_ep.specs.declared.answer.Verdict.TheVariants.{Done, Working, Busy, Refused}
use Rattle.control_ep.specs.Transfers.{HostReport, LedsWithId, LedsAlone, FeatureData, Takes, Stage, Rest, Sending, Taking, Waiting, Status, Stalled}
use Rattle.control_ep.specs.Calls.{EpCall, Setup, Out, Checked, In, Settle, Fail, Reset}
use Rattle.control_ep.specs.Stage.{LastSetup, Begins, calls_since, last_setup, first_stall, is_empty_packet, is_ack, acknowledges, CommandState, NoCommand, Works, Settled, Failed, state_after, command_state, is_empty_in, Progress, progress_of, after_command, unless_stalled, stage}
use Rattle.control_ep.specs.Answers.{in_answer, has_id, content, received_report, report_step, out_step, checked_answer}
use Rattle.control_ep.specs.Relation.{is_offered, AllAnswered}
use Rattle.control_ep.proofs.Stages.{stage_by, stage-is, taking_is, IsTaking, IsWaiting}

-- no command without a report that was taken; no status packet before it was, nor while its command works
pub record IsClean (start : LastSetup) (taken : Bool) (state : CommandState) (confirmed : Bool) : Type 0 where
  pub idle : taken ≡ false → state ≡ NoCommand
  pub confirmed_after : (kind : HostReport) (length : ℕ) → start ≡ Begins (Takes kind) length → confirmed ≡ true → (taken ≡ true) × (state ≢ Works)

or_false : (a b : Bool) → (a || b) ≡ false → (a ≡ false) × (b ≡ false)
or_false true b e = cc
or_false false b e = (refl, e)

or_true : (a b : Bool) → b ≡ true → (a || b) ≡ true
or_true true b e = refl
or_true false b e = e

-- an empty packet in a transfer that takes a report is the status packet
empty_packet : (stalled : Option Why) (kind : HostReport) (taken : Bool) (state : CommandState) (confirmed : Bool) (answer : EpAnswer)
    → answer ≡ in_answer (unless_stalled stalled (cond taken (after_command state confirmed) (Taking kind))) → is_empty_packet answer ≡ true
    → (taken ≡ true) × (state ≢ Works)
empty_packet (Some why) kind taken state confirmed answer e empty = let f : is_empty_packet answer ≡ false = ap is_empty_packet e in cc
empty_packet None kind false state confirmed answer e empty = let f : is_empty_packet answer ≡ false = ap is_empty_packet e in cc
empty_packet None kind true Works confirmed answer e empty = let f : is_empty_packet answer ≡ false = ap is_empty_packet e in cc
empty_packet None kind true Failed confirmed answer e empty = (refl, λ w. cc)
empty_packet None kind true NoCommand confirmed answer e empty = (refl, λ w. cc)
empty_packet None kind true Settled confirmed answer e empty = (refl, λ w. cc)

empty_packet_in : (stalled : Option Why) (start : LastSetup) (progress : Progress) (answer : EpAnswer) (kind : HostReport) (length : ℕ)
    → start ≡ Begins (Takes kind) length → answer ≡ in_answer (stage_by stalled start progress) → is_empty_packet answer ≡ true
    → (progress.taken ≡ true) × (progress.command ≢ Works)
empty_packet_in stalled start progress answer kind length s e empty =
    let f = rw s at e in empty_packet stalled kind progress.taken progress.command progress.confirmed answer f empty

clean_in : (empty : Bool) (start : LastSetup) (taken : Bool) (state : CommandState) (confirmed : Bool)
    → ((kind : HostReport) (length : ℕ) → start ≡ Begins (Takes kind) length → empty ≡ true → (taken ≡ true) × (state ≢ Works))
    → IsClean start taken state confirmed → IsClean start taken state (empty || confirmed)
clean_in true start taken state confirmed h c = record { idle = c.idle; confirmed_after = λ kind length s _. h kind length s refl }
clean_in false start taken state confirmed h c = c

clean_out : (acked : Bool) (start : LastSetup) (taken : Bool) (state : CommandState) (confirmed : Bool)
    → IsClean start taken state confirmed → IsClean start (acked || taken) state confirmed
clean_out acked start taken state confirmed c = record {
  idle = λ e. c.idle (or_false acked taken e).1;
  confirmed_after = λ kind length s e.
      let before = c.confirmed_after kind length s e in
      (or_true acked taken before.0, before.1);
}

not_works : (state end : CommandState) → end ≢ Works → state ≢ Works → state_after state end ≢ Works
not_works Works end n m e = m refl
not_works NoCommand end n m e = m e
not_works Settled end n m e = m e
not_works Failed end n m e = m e

ended_none : (state end : CommandState) → state ≡ NoCommand → state_after state end ≡ NoCommand
ended_none Works end e = cc
ended_none NoCommand end e = refl
ended_none Settled end e = cc
ended_none Failed end e = cc

clean_end : (end : CommandState) (start : LastSetup) (taken : Bool) (state : CommandState) (confirmed : Bool)
    → end ≢ Works → IsClean start taken state confirmed → IsClean start taken (state_after state end) confirmed
clean_end end start taken state confirmed n c = record {
  idle = λ e. ended_none state end (c.idle e);
  confirmed_after = λ kind length s e.
      let before = c.confirmed_after kind length s e in
      (before.0, not_works state end n before.1);
}

-- before a report is taken there was no status packet
unconfirmed : (start : LastSetup) (taken : Bool) (state : CommandState) (confirmed : Bool) (kind : HostReport) (length : ℕ)
    → start ≡ Begins (Takes kind) length → taken ≡ false → IsClean start taken state confirmed → confirmed ≡ false
unconfirmed start taken state true kind length s t c = let both = c.confirmed_after kind length s refl in let yes : taken ≡ true = both.0 in cc
unconfirmed start taken state false kind length s t c = refl

-- the checks of a report's packet, each as a test, and what the packet holds
abbrev report_by : Bool → Bool → Bool → OutStep → Result OutStep Why
report_by short long other step = if short then Err ShortData else (if long then Err LongData else (if other then Err UnknownReport else Ok step))

content_is : (short long other : Bool) (step got : OutStep) → report_by short long other step ≡ Ok got → step ≡ got
content_is true long other step got e = cc
content_is false true other step got e = cc
content_is false false true step got e = cc
content_is false false false step got e = cc

pub received_is : (kind : HostReport) (packet : List ℕ) (got : OutStep) → received_report kind packet ≡ Ok got → content kind packet ≡ got
received_is kind packet got e =
    content_is (nat_lt (length packet) (length_of kind)) (nat_lt (length_of kind) (length packet)) (not (has_id (id_of kind) packet)) (content kind packet) got e

offered_is : (short long other : Bool) (step : OutStep) (bytes : List ℕ) → Offer bytes ≡ report_step (report_by short long other step) → step ≡ Offer bytes
offered_is true long other step bytes e = cc
offered_is false true other step bytes e = cc
offered_is false false true step bytes e = cc
offered_is false false false step bytes e = sym e

offered_kind : (kind : HostReport) (packet bytes : List ℕ) → content kind packet ≡ Offer bytes → kind ≡ FeatureData
offered_kind LedsWithId packet bytes e = cc
offered_kind LedsAlone packet bytes e = cc
offered_kind FeatureData packet bytes e = refl

pub offers : (s : Stage) (packet bytes : List ℕ) → Offer bytes ≡ out_step s packet → s ≡ Taking FeatureData
offers Rest packet bytes e = cc
offers (Sending x asked n) [] bytes e = cc
offers (Sending x asked n) (b ∷ bs) bytes e = cc
offers (Taking kind) packet bytes e =
    let step = offered_is (nat_lt (length packet) (length_of kind)) (nat_lt (length_of kind) (length packet)) (not (has_id (id_of kind) packet)) (content kind packet) bytes e in
    ap Taking (offered_kind kind packet bytes step)
offers (Status effect) packet bytes e = cc
offers Waiting packet bytes e = cc
offers (Stalled why) packet bytes e = cc

abbrev LookedBack : (kind : HostReport) → List EpCall → Type 0
LookedBack kind past = IsTaking kind (first_stall (calls_since past)) (last_setup past) (progress_of (calls_since past))

-- after an offer the report is still to be taken
pub offered_taking : (past : List EpCall) → AllAnswered past → is_offered past ≡ true → LookedBack FeatureData past
offered_taking (Out packet (Offer bytes) ∷ past) all o =
    let was = offers (stage past) packet bytes all.0 in
    let t = taking_is FeatureData (first_stall (calls_since past)) (last_setup past) (progress_of (calls_since past)) (sym was ∙ stage-is past) in
    record {
      length = t.length;
      unstalled = rw t.unstalled refl;
      begins = t.begins;
      not_taken = t.not_taken;
    }
offered_taking past all o = cc

-- an offer leaves the feature report due
pub offered_feature : (past : List EpCall) → AllAnswered past → is_offered past ≡ true → stage past ≡ Taking FeatureData
offered_feature past all o =
    let t = offered_taking past all o in
    stage-is past ∙ rw (t.unstalled, t.begins, t.not_taken) refl

clean_working : (acked : Bool) (start : LastSetup) (taken : Bool) (state : CommandState) (confirmed : Bool)
    → acked ≡ true → taken ≡ false → IsClean start taken state confirmed → IsClean start (acked || taken) Works confirmed
clean_working acked start taken state confirmed a t c = record {
  idle = λ e. let f = (or_false acked taken e).0 in cc;
  confirmed_after = λ kind length s e. let f = unconfirmed start taken state confirmed kind length s t c in cc;
}

clean_checked : (verdict : Verdict) (answer : EpAnswer) (past : List EpCall) → answer ≡ checked_answer verdict → list_any acknowledges (calls_since past) ≡ false
    → IsClean (last_setup past) (list_any acknowledges (calls_since past)) (command_state (calls_since past)) (list_any is_empty_in (calls_since past))
    → IsClean (last_setup past) (is_ack answer || list_any acknowledges (calls_since past)) (command_state (Checked verdict answer ∷ calls_since past)) (list_any is_empty_in (calls_since past))
clean_checked Done answer past a t c = clean_out (is_ack answer) (last_setup past) (list_any acknowledges (calls_since past)) (command_state (calls_since past)) (list_any is_empty_in (calls_since past)) c
clean_checked Working answer past a t c =
    clean_working (is_ack answer) (last_setup past) (list_any acknowledges (calls_since past)) (command_state (calls_since past)) (list_any is_empty_in (calls_since past)) (ap is_ack a) t c
clean_checked Busy answer past a t c = clean_out (is_ack answer) (last_setup past) (list_any acknowledges (calls_since past)) (command_state (calls_since past)) (list_any is_empty_in (calls_since past)) c
clean_checked (Refused why) answer past a t c =
    clean_out (is_ack answer) (last_setup past) (list_any acknowledges (calls_since past)) (command_state (calls_since past)) (list_any is_empty_in (calls_since past)) c

pub clean : (past : List EpCall) → AllAnswered past → IsClean (last_setup past) (list_any acknowledges (calls_since past)) (command_state (calls_since past)) (list_any is_empty_in (calls_since past))
clean [] all = record { idle = λ _. refl; confirmed_after = λ kind length s e. cc }
clean (Setup setup view ∷ past) all = record { idle = λ _. refl; confirmed_after = λ kind length s e. cc }
clean (Reset ∷ past) all = record { idle = λ _. refl; confirmed_after = λ kind length s e. cc }
clean (Out packet step ∷ past) all =
    clean_out (acknowledges (Out packet step)) (last_setup past) (list_any acknowledges (calls_since past)) (command_state (calls_since past)) (list_any is_empty_in (calls_since past)) (clean past all.1)
clean (Checked verdict answer ∷ past) all =
    clean_checked verdict answer past all.0.1 (offered_taking past all.1 all.0.0).not_taken (clean past all.1)
clean (In answer effect ∷ past) all =
    clean_in (is_empty_packet answer) (last_setup past) (list_any acknowledges (calls_since past)) (command_state (calls_since past)) (list_any is_empty_in (calls_since past))
    (λ kind length s e. empty_packet_in (first_stall (calls_since past)) (last_setup past) (progress_of (calls_since past)) answer kind length s (all.0.0 ∙ ap in_answer (stage-is past)) e)
    (clean past all.1)
clean (Settle ∷ past) all =
    clean_end Settled (last_setup past) (list_any acknowledges (calls_since past)) (command_state (calls_since past)) (list_any is_empty_in (calls_since past)) (λ e. cc) (clean past all.1)
clean (Fail ∷ past) all =
    clean_end Failed (last_setup past) (list_any acknowledges (calls_since past)) (command_state (calls_since past)) (list_any is_empty_in (calls_since past)) (λ e. cc) (clean past all.1)

-- a report that is still to be taken was not confirmed
pub taking_unconfirmed : (past : List EpCall) (kind : HostReport) → AllAnswered past → LookedBack kind past → list_any is_empty_in (calls_since past) ≡ false
taking_unconfirmed past kind all t =
    unconfirmed (last_setup past) (list_any acknowledges (calls_since past)) (command_state (calls_since past)) (list_any is_empty_in (calls_since past)) kind t.length t.begins t.not_taken (clean past all)

not_confirmed : (confirmed : Bool) → (confirmed ≡ true → ⊥) → confirmed ≡ false
not_confirmed true n = absurd (n refl)
not_confirmed false n = refl

-- nor was one whose command works
pub waiting_unconfirmed : (past : List EpCall) → AllAnswered past → IsWaiting (first_stall (calls_since past)) (last_setup past) (progress_of (calls_since past))
    → list_any is_empty_in (calls_since past) ≡ false
waiting_unconfirmed past all w =
    not_confirmed (list_any is_empty_in (calls_since past)) (λ e. ((clean past all).confirmed_after w.taken w.length w.begins e).1 w.works)
