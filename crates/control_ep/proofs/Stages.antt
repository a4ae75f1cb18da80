-- How one more call changes the stage.
use Rattle.std.specs.Option.{option_or}
use Rattle.std.proofs.Common.{◌≡◌, ℕ, ◌==◌, Bool, true, false, cond, List, Option, Some, None, refl}
use Rattle.control_ep.specs.declared.why.Why.{Why}
use Rattle.control_ep.specs.declared.answer.EpAnswer.TheVariants.{Stall}
use Rattle.control_ep.specs.declared.answer.OutStep.TheVariants.{Answered}
use Rattle.control_ep.specs.declared.answer.Effect.{Effect}
use Rattle.control_ep.specs.declared.answer.Effect.TheVariants.{Nothing}
use Rattle.control_ep.specs.Transfers.{HostReport, Reads, Takes, Sets, Stage, Rest, Sending, Taking, Waiting, Status}
use Rattle.control_ep.specs.Calls.{EpCall}
use Rattle.control_ep.specs.Stage.{LastSetup, NoSetup, RefusedFor, Begins, calls_since, last_setup, first_stall, CommandState, NoCommand, Works, Settled, Failed, state_after, Progress, progress_of, stage_with, until_confirmed, after_command, unless_stalled, stage}
use Rattle.control_ep.specs.Answers.{in_answer, out_step}

-- the stage of these look-backs
abbrev pub stage_by : Option Why → LastSetup → Progress → Stage
stage_by stalled start progress = unless_stalled stalled (stage_with start progress)

abbrev pub progress_with : Bool → ℕ → Bool → CommandState → Bool → Progress
progress_with closed sent taken state confirmed =
    record { closed = closed; sent = sent; taken = taken; command = state; confirmed = confirmed }

pub stage-is : (past : List EpCall) → stage past ≡ stage_by (first_stall (calls_since past)) (last_setup past) (progress_of (calls_since past))
unfolding stage
stage-is past = refl

-- one more STALL of a stalled transfer has the same reason
pub stalled_again : (stalled : Option Why) (start : LastSetup) (progress : Progress) (why : Why)
    → in_answer (stage_by stalled start progress) ≡ Stall why → option_or stalled (Some why) ≡ Some why
stalled_again None start progress why e = refl
stalled_again (Some w) start progress why e = cc

pub stalled_again_out : (stalled : Option Why) (start : LastSetup) (progress : Progress) (packet : List ℕ) (why : Why)
    → out_step (stage_by stalled start progress) packet ≡ Answered (Stall why) → option_or stalled (Some why) ≡ Some why
stalled_again_out None start progress packet why e = refl
stalled_again_out (Some w) start progress packet why e = cc

-- what a stage tells of the look-backs

pub record IsSending (x : List ℕ) (asked n : ℕ) (stalled : Option Why) (start : LastSetup) (progress : Progress) : Type 0 where
  pub unstalled : stalled ≡ None
  pub begins : start ≡ Begins (Reads x) asked
  pub some : (asked == 0) ≡ false
  pub open_still : progress.closed ≡ false
  pub count : progress.sent ≡ n

pub record IsTaking (taken : HostReport) (stalled : Option Why) (start : LastSetup) (progress : Progress) : Type 0 where
  pub length : ℕ
  pub unstalled : stalled ≡ None
  pub begins : start ≡ Begins (Takes taken) length
  pub not_taken : progress.taken ≡ false

pub record IsWaiting (stalled : Option Why) (start : LastSetup) (progress : Progress) : Type 0 where
  pub taken : HostReport
  pub length : ℕ
  pub unstalled : stalled ≡ None
  pub begins : start ≡ Begins (Takes taken) length
  pub is_taken : progress.taken ≡ true
  pub works : progress.command ≡ Works

not_sending_until : (confirmed : Bool) (effect : Effect) (x : List ℕ) (asked n : ℕ) → Sending x asked n ≡ until_confirmed confirmed effect → ⊥
not_sending_until true effect x asked n e = cc
not_sending_until false effect x asked n e = cc

not_sending_after : (state : CommandState) (confirmed : Bool) (x : List ℕ) (asked n : ℕ) → Sending x asked n ≡ after_command state confirmed → ⊥
not_sending_after Works confirmed x asked n e = cc
not_sending_after Failed confirmed x asked n e = cc
not_sending_after NoCommand confirmed x asked n e = not_sending_until confirmed Nothing x asked n e
not_sending_after Settled confirmed x asked n e = not_sending_until confirmed Nothing x asked n e

not_taking_until : (confirmed : Bool) (effect : Effect) (taken : HostReport) → Taking taken ≡ until_confirmed confirmed effect → ⊥
not_taking_until true effect taken e = cc
not_taking_until false effect taken e = cc

not_taking_after : (state : CommandState) (confirmed : Bool) (taken : HostReport) → Taking taken ≡ after_command state confirmed → ⊥
not_taking_after Works confirmed taken e = cc
not_taking_after Failed confirmed taken e = cc
not_taking_after NoCommand confirmed taken e = not_taking_until confirmed Nothing taken e
not_taking_after Settled confirmed taken e = not_taking_until confirmed Nothing taken e

not_waiting_until : (confirmed : Bool) (effect : Effect) → Waiting ≡ until_confirmed confirmed effect → ⊥
not_waiting_until true effect e = cc
not_waiting_until false effect e = cc

waiting_after : (state : CommandState) (confirmed : Bool) → Waiting ≡ after_command state confirmed → state ≡ Works
waiting_after Works confirmed e = refl
waiting_after Failed confirmed e = cc
waiting_after NoCommand confirmed e = absurd (not_waiting_until confirmed Nothing e)
waiting_after Settled confirmed e = absurd (not_waiting_until confirmed Nothing e)

abbrev reading_by : Bool → Bool → Bool → List ℕ → ℕ → ℕ → Stage
reading_by none closed confirmed bytes length sent =
    cond none (until_confirmed confirmed Nothing) (cond closed Rest (Sending bytes length sent))

abbrev taking_by : Bool → CommandState → Bool → HostReport → Stage
taking_by taken state confirmed kind = cond taken (after_command state confirmed) (Taking kind)

reading : (none closed confirmed : Bool) (bytes x : List ℕ) (length asked sent n : ℕ)
    → Sending x asked n ≡ reading_by none closed confirmed bytes length sent
    → (none ≡ false) × (closed ≡ false) × (bytes ≡ x) × (length ≡ asked) × (sent ≡ n)
reading true closed confirmed bytes x length asked sent n e = absurd (not_sending_until confirmed Nothing x asked n e)
reading false true confirmed bytes x length asked sent n e = cc
reading false false confirmed bytes x length asked sent n e = (refl, refl, cc, cc, cc)

not_sending_takes : (taken : Bool) (state : CommandState) (confirmed : Bool) (kind : HostReport) (x : List ℕ) (asked n : ℕ)
    → Sending x asked n ≡ taking_by taken state confirmed kind → ⊥
not_sending_takes true state confirmed kind x asked n e = not_sending_after state confirmed x asked n e
not_sending_takes false state confirmed kind x asked n e = cc

pub sending_is : (x : List ℕ) (asked n : ℕ) (stalled : Option Why) (start : LastSetup) (progress : Progress)
    → Sending x asked n ≡ stage_by stalled start progress → IsSending x asked n stalled start progress
sending_is x asked n (Some why) start progress e = cc
sending_is x asked n None NoSetup progress e = cc
sending_is x asked n None (RefusedFor why) progress e = cc
sending_is x asked n None (Begins (Reads bytes) length) progress e =
    let r = reading (length == 0) progress.closed progress.confirmed bytes x length asked progress.sent n e in
    record {
      unstalled = refl;
      begins = cc;
      some = rw (← r.3) r.0;
      open_still = r.1;
      count = r.4;
    }
sending_is x asked n None (Begins (Takes kind) length) progress e =
    absurd (not_sending_takes progress.taken progress.command progress.confirmed kind x asked n e)
sending_is x asked n None (Begins (Sets effect) length) progress e = absurd (not_sending_until progress.confirmed effect x asked n e)

not_taking_reads : (none closed confirmed : Bool) (bytes : List ℕ) (length sent : ℕ) (kind : HostReport)
    → Taking kind ≡ reading_by none closed confirmed bytes length sent → ⊥
not_taking_reads true closed confirmed bytes length sent kind e = not_taking_until confirmed Nothing kind e
not_taking_reads false true confirmed bytes length sent kind e = cc
not_taking_reads false false confirmed bytes length sent kind e = cc

taking_takes : (taken : Bool) (state : CommandState) (confirmed : Bool) (kind other : HostReport)
    → Taking other ≡ taking_by taken state confirmed kind → (taken ≡ false) × (kind ≡ other)
taking_takes true state confirmed kind other e = absurd (not_taking_after state confirmed other e)
taking_takes false state confirmed kind other e = (refl, cc)

pub taking_is : (kind : HostReport) (stalled : Option Why) (start : LastSetup) (progress : Progress)
    → Taking kind ≡ stage_by stalled start progress → IsTaking kind stalled start progress
taking_is kind (Some why) start progress e = cc
taking_is kind None NoSetup progress e = cc
taking_is kind None (RefusedFor why) progress e = cc
taking_is kind None (Begins (Reads bytes) length) progress e =
    absurd (not_taking_reads (length == 0) progress.closed progress.confirmed bytes length progress.sent kind e)
taking_is kind None (Begins (Takes other) length) progress e =
    let t = taking_takes progress.taken progress.command progress.confirmed other kind e in
    record { length = length; unstalled = refl; begins = cc; not_taken = t.0 }
taking_is kind None (Begins (Sets effect) length) progress e = absurd (not_taking_until progress.confirmed effect kind e)

not_waiting_reads : (none closed confirmed : Bool) (bytes : List ℕ) (length sent : ℕ)
    → Waiting ≡ reading_by none closed confirmed bytes length sent → ⊥
not_waiting_reads true closed confirmed bytes length sent e = not_waiting_until confirmed Nothing e
not_waiting_reads false true confirmed bytes length sent e = cc
not_waiting_reads false false confirmed bytes length sent e = cc

waiting_takes : (taken : Bool) (state : CommandState) (confirmed : Bool) (kind : HostReport)
    → Waiting ≡ taking_by taken state confirmed kind → (taken ≡ true) × (state ≡ Works)
waiting_takes true state confirmed kind e = (refl, waiting_after state confirmed e)
waiting_takes false state confirmed kind e = cc

pub waiting_is : (stalled : Option Why) (start : LastSetup) (progress : Progress)
    → Waiting ≡ stage_by stalled start progress → IsWaiting stalled start progress
waiting_is (Some why) start progress e = cc
waiting_is None NoSetup progress e = cc
waiting_is None (RefusedFor why) progress e = cc
waiting_is None (Begins (Reads bytes) length) progress e =
    absurd (not_waiting_reads (length == 0) progress.closed progress.confirmed bytes length progress.sent e)
waiting_is None (Begins (Takes kind) length) progress e =
    let w = waiting_takes progress.taken progress.command progress.confirmed kind e in
    record { taken = kind; length = length; unstalled = refl; begins = refl; is_taken = w.0; works = w.1 }
waiting_is None (Begins (Sets effect) length) progress e = absurd (not_waiting_until progress.confirmed effect e)

-- the status packet ends the transfer
status_reads : (none closed confirmed : Bool) (bytes : List ℕ) (length sent more : ℕ) (effect : Effect)
    → Status effect ≡ reading_by none closed confirmed bytes length sent → reading_by none closed true bytes length more ≡ Rest
status_reads true closed confirmed bytes length sent more effect e = refl
status_reads false true confirmed bytes length sent more effect e = refl
status_reads false false confirmed bytes length sent more effect e = cc

status_takes : (taken : Bool) (state : CommandState) (confirmed : Bool) (kind : HostReport) (effect : Effect)
    → Status effect ≡ taking_by taken state confirmed kind → taking_by taken state true kind ≡ Rest
status_takes false state confirmed kind effect e = cc
status_takes true Works confirmed kind effect e = cc
status_takes true Failed confirmed kind effect e = cc
status_takes true NoCommand confirmed kind effect e = refl
status_takes true Settled confirmed kind effect e = refl

pub status_confirmed : (effect : Effect) (stalled : Option Why) (start : LastSetup) (progress : Progress) (more : ℕ)
    → Status effect ≡ stage_by stalled start progress
    → stage_by (option_or stalled None) start (progress_with progress.closed more progress.taken progress.command true) ≡ Rest
status_confirmed effect (Some why) start progress more e = cc
status_confirmed effect None NoSetup progress more e = refl
status_confirmed effect None (RefusedFor why) progress more e = cc
status_confirmed effect None (Begins (Reads bytes) length) progress more e =
    status_reads (length == 0) progress.closed progress.confirmed bytes length progress.sent more effect e
status_confirmed effect None (Begins (Takes kind) length) progress more e =
    status_takes progress.taken progress.command progress.confirmed kind effect e
status_confirmed effect None (Begins (Sets other) length) progress more e = refl

-- where no command works, an end of one changes nothing
ended_takes : (taken : Bool) (state end : CommandState) (confirmed : Bool) (kind : HostReport)
    → (Waiting ≡ taking_by taken state confirmed kind → ⊥) → taking_by taken (state_after state end) confirmed kind ≡ taking_by taken state confirmed kind
ended_takes false state end confirmed kind n = refl
ended_takes true Works end confirmed kind n = absurd (n refl)
ended_takes true NoCommand end confirmed kind n = refl
ended_takes true Settled end confirmed kind n = refl
ended_takes true Failed end confirmed kind n = refl

pub ended_others : (stalled : Option Why) (start : LastSetup) (progress : Progress) (end : CommandState)
    → (Waiting ≡ stage_by stalled start progress → ⊥)
    → stage_by (option_or stalled None) start (progress_with progress.closed progress.sent progress.taken (state_after progress.command end) progress.confirmed) ≡ stage_by stalled start progress
ended_others (Some why) start progress end n = refl
ended_others None NoSetup progress end n = refl
ended_others None (RefusedFor why) progress end n = refl
ended_others None (Begins (Reads bytes) length) progress end n = refl
ended_others None (Begins (Takes kind) length) progress end n =
    ended_takes progress.taken progress.command end progress.confirmed kind n
ended_others None (Begins (Sets effect) length) progress end n = refl
