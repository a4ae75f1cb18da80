-- A transfer brings at most one command: behind it each further packet is stalled.
use Rattle.std.proofs.Common.{◌≡◌, ℕ, ◌||◌, Bool, true, false, is_some, Option, Some, None, Result, Ok, Err, List, [], ◌∷◌, ◌++◌, drop, refl, sym, ap, subst, ◌∙◌}
use Rattle.std.specs.List.{list_any}
use Rattle.layers.specs.Codes.{DefaultCodes}
use Rattle.layers.specs.declared.command.Command.{Command}
use Rattle.control_ep.specs.declared.why.Why.{Why}
use Rattle.control_ep.specs.declared.why.Why.TheVariants.{WrongStage, FlashFault}
use Rattle.control_ep.specs.declared.answer.EpAnswer.{EpAnswer}
use Rattle.control_ep.specs.declared.answer.EpAnswer.TheVariants.{Ack, Stall}
use Rattle.control_ep.specs.declared.answer.OutStep.{OutStep}
use Rattle.control_ep.specs.declared.answer.OutStep.TheVariants.{Answered, Leds, Offer}
use Rattle.control_ep.specs.Transfers.{LedsWithId, LedsAlone, FeatureData, Takes, Stage, Rest, Sending, Taking, Waiting, Status, Stalled}
use Rattle.control_ep.specs.Calls.{EpCall}
use Rattle.control_ep.specs.Stage.{Begins, calls_since, last_setup, first_stall, is_ack, acknowledges, is_empty_in, command_state, CommandState, NoCommand, Works, Settled, Failed, progress_of, after_command, unless_stalled, stage}
use Rattle.control_ep.specs.Answers.{out_step, received_report, report_step}
use Rattle.control_ep.proofs.Stages.{stage-is, taking_is, IsTaking}
use Rattle.control_ep.proofs.Clean.{received_is}
use Rattle.keymap_store.specs.declared.store.Work.TheVariants as Work
use Rattle.keyboard.specs.Acknowledged.{SameTransfer}
use Rattle.keyboard.specs.Calls.{Call, Scanned, SetUp, Out, In, Polled, Worked, BusReset, setup_of, image_after, keymap, EachCall}
use Rattle.keyboard.specs.Commands.{accepts, working}
use Rattle.keyboard.specs.Effects.{report_named}
use Rattle.keyboard.specs.Endpoint.{with_out, ep_calls, stage_after}
use Rattle.keyboard.specs.Conforming.{IsAnswered, OutAnswer}
use Rattle.keyboard.proofs.Effects.{Accepts, accepted_by}
use Rattle.keyboard.proofs.Served.{Serves, serves}
use Rattle.keyboard.proofs.Telling.{EachCall-later}

-- the endpoint's calls of a transfer whose report was taken
record IsTaken (calls : List EpCall) : Type 0 where
  length : ℕ
  begins : last_setup calls ≡ Begins (Takes FeatureData) length
  taken : list_any acknowledges (calls_since calls) ≡ true

or_true : (a b : Bool) → b ≡ true → (a || b) ≡ true
or_true true b e = refl
or_true false b e = e

-- a feature report that was acknowledged was offered
record Offered (now : Stage) (packet : List ℕ) : Type 0 where
  due : now ≡ Taking FeatureData
  step : out_step now packet ≡ Offer (drop 1 packet)

-- a further packet is stalled
stalls_out : (stalled : Option Why) (state : CommandState) (confirmed : Bool) (packet : List ℕ)
    → (why : Why) × (out_step (unless_stalled stalled (after_command state confirmed)) packet ≡ Answered (Stall why))
stalls_out (Some why) state confirmed packet = (why, refl)
stalls_out None Works confirmed packet = (WrongStage, refl)
stalls_out None Failed confirmed packet = (FlashFault, refl)
stalls_out None NoCommand true packet = (WrongStage, refl)
stalls_out None NoCommand false packet = (WrongStage, refl)
stalls_out None Settled true packet = (WrongStage, refl)
stalls_out None Settled false packet = (WrongStage, refl)

stage_taken : (calls : List EpCall) → IsTaken calls
    → stage calls ≡ unless_stalled (first_stall (calls_since calls)) (after_command (command_state (calls_since calls)) (list_any is_empty_in (calls_since calls)))
stage_taken calls t = stage-is calls ∙ rw (t.begins, t.taken) refl

pub same_later : (call : Call) (between : List Call) → SameTransfer (call ∷ between) → SameTransfer between
same_later (Scanned scan) between s = s
same_later (SetUp bytes) between s = absurd s
same_later (Out packet answer) between s = s
same_later (In answer) between s = s
same_later (Polled answer) between s = s
same_later (Worked work image) between s = s
same_later BusReset between s = absurd s

module _ (defaults : DefaultCodes) where
  offered_received : (image : List ℕ) (busy : Bool) (packet : List ℕ) (r : Result OutStep Why) → received_report FeatureData packet ≡ r → OutAnswer defaults (report_step r) image busy Ack
      → report_step r ≡ Offer (drop 1 packet)
  offered_received image busy packet (Err why) e a = cc
  offered_received image busy packet (Ok got) e a = sym (received_is FeatureData packet got e)

  offered_by : (image : List ℕ) (busy : Bool) (setup : Option (List ℕ)) (packet : List ℕ) (now : Stage) → Serves setup now → report_named setup ≡ Some FeatureData
      → OutAnswer defaults (out_step now packet) image busy Ack → Offered now packet
  offered_by image busy setup packet Rest s n a = cc
  offered_by image busy setup packet (Sending bytes asked sent) s n a = (let none : report_named setup ≡ None = s.0 in cc)
  offered_by image busy setup packet (Taking LedsWithId) s n a = (let led : report_named setup ≡ Some LedsWithId = s.0 in cc)
  offered_by image busy setup packet (Taking LedsAlone) s n a = (let led : report_named setup ≡ Some LedsAlone = s.0 in cc)
  offered_by image busy setup packet (Taking FeatureData) s n a = record { due = refl; step = offered_received image busy packet (received_report FeatureData packet) refl a }
  offered_by image busy setup packet Waiting s n a = cc
  offered_by image busy setup packet (Status effect) s n a = cc
  offered_by image busy setup packet (Stalled why) s n a = cc

  taken_offered : (step : OutStep) (packet bytes : List ℕ) (entries : ℕ → ℕ → ℕ) (calls : List EpCall) → step ≡ Offer bytes
      → IsTaking FeatureData (first_stall (calls_since calls)) (last_setup calls) (progress_of (calls_since calls)) → IsTaken (with_out defaults step packet entries Ack calls)
  taken_offered step packet bytes entries calls s t =
      subst (λ (x : OutStep). IsTaken (with_out defaults x packet entries Ack calls)) (sym s) (record { length = t.length; begins = t.begins; taken = refl })

  -- the packet that brings the command
  at_packet : (start : List ℕ) (before : List Call) (packet : List ℕ) (answer : EpAnswer) (command : Command) → accepts before (Out packet answer) ≡ Some command
      → IsAnswered defaults start before (Out packet answer) → IsTaken (ep_calls defaults start (Out packet answer ∷ before))
  unfolding ep_calls
  at_packet start before packet answer command s a =
      let by : Accepts before packet answer command = accepted_by before packet answer command s in
      let calls : List EpCall = ep_calls defaults start before in
      let entries : ℕ → ℕ → ℕ = keymap defaults (image_after start before) in
      let is : Offered (stage_after defaults start before) packet =
      offered_by (image_after start before) (is_some (working defaults start before)) (setup_of before) packet (stage_after defaults start before) (serves defaults start before) by.names
      (subst (λ (x : EpAnswer). OutAnswer defaults (out_step (stage_after defaults start before) packet) (image_after start before) (is_some (working defaults start before)) x) by.acknowledged a) in
      let due : IsTaking FeatureData (first_stall (calls_since calls)) (last_setup calls) (progress_of (calls_since calls)) =
      taking_is FeatureData (first_stall (calls_since calls)) (last_setup calls) (progress_of (calls_since calls)) (sym is.due ∙ stage-is calls) in
      subst (λ (x : EpAnswer). IsTaken (with_out defaults (out_step (stage calls) packet) packet entries x calls)) (sym by.acknowledged)
      (taken_offered (out_step (stage calls) packet) packet (drop 1 packet) entries calls is.step due)

  taken_out : (step : OutStep) (packet : List ℕ) (entries : ℕ → ℕ → ℕ) (answer : EpAnswer) (calls : List EpCall) → IsTaken calls → IsTaken (with_out defaults step packet entries answer calls)
  taken_out (Answered answered) packet entries answer calls t = record { length = t.length; begins = t.begins; taken = or_true (is_ack answered) (list_any acknowledges (calls_since calls)) t.taken }
  taken_out (Leds leds) packet entries answer calls t = record { length = t.length; begins = t.begins; taken = refl }
  taken_out (Offer bytes) packet entries answer calls t = record { length = t.length; begins = t.begins; taken = or_true (is_ack answer) (list_any acknowledges (calls_since calls)) t.taken }

  -- a call of the same transfer
  taken_more : (start : List ℕ) (past : List Call) (call : Call) (between : List Call) → SameTransfer (call ∷ between) → IsTaken (ep_calls defaults start past) → IsTaken (ep_calls defaults start (call ∷ past))
  unfolding ep_calls
  taken_more start past (Scanned scan) between same t = t
  taken_more start past (SetUp bytes) between same t = absurd same
  taken_more start past (Out packet answer) between same t = taken_out (out_step (stage (ep_calls defaults start past)) packet) packet (keymap defaults (image_after start past)) answer (ep_calls defaults start past) t
  taken_more start past (In answer) between same t = record { length = t.length; begins = t.begins; taken = t.taken }
  taken_more start past (Polled answer) between same t = t
  taken_more start past (Worked Work.Idle image) between same t = t
  taken_more start past (Worked Work.Working image) between same t = t
  taken_more start past (Worked Work.Settled image) between same t = record { length = t.length; begins = t.begins; taken = t.taken }
  taken_more start past (Worked Work.Failed image) between same t = record { length = t.length; begins = t.begins; taken = t.taken }
  taken_more start past BusReset between same t = absurd same

  taken_between : (start : List ℕ) (between before : List Call) (packet : List ℕ) (answer : EpAnswer) (command : Command) → SameTransfer between → accepts before (Out packet answer) ≡ Some command
      → IsAnswered defaults start before (Out packet answer) → IsTaken (ep_calls defaults start (between ++ Out packet answer ∷ before))
  taken_between start [] before packet answer command same s a = at_packet start before packet answer command s a
  taken_between start (call ∷ between) before packet answer command same s a =
      taken_more start (between ++ Out packet answer ∷ before) call between same (taken_between start between before packet answer command (same_later call between same) s a)

  stalled_out : (start : List ℕ) (past : List Call) (packet : List ℕ) (answer : EpAnswer) → IsTaken (ep_calls defaults start past) → IsAnswered defaults start past (Out packet answer) → accepts past (Out packet answer) ≡ None
  unfolding accepts
  stalled_out start past packet answer t a =
      let calls : List EpCall = ep_calls defaults start past in
      let stalls = stalls_out (first_stall (calls_since calls)) (command_state (calls_since calls)) (list_any is_empty_in (calls_since calls)) packet in
      let step : out_step (stage calls) packet ≡ Answered (Stall stalls.0) = ap (λ (now : Stage). out_step now packet) (stage_taken calls t) ∙ stalls.1 in
      let P : OutStep → Type 0 = λ x. OutAnswer defaults x (image_after start past) (is_some (working defaults start past)) answer in
      let e : answer ≡ Stall stalls.0 = subst P step a in
      ap (λ x. accepts past (Out packet x)) e

  accepts_no_more : (start : List ℕ) (past : List Call) (call : Call) → IsTaken (ep_calls defaults start past) → IsAnswered defaults start past call → accepts past call ≡ None
  unfolding accepts
  accepts_no_more start past (Scanned scan) t a = refl
  accepts_no_more start past (SetUp bytes) t a = refl
  accepts_no_more start past (Out packet answer) t a = stalled_out start past packet answer t a
  accepts_no_more start past (In answer) t a = refl
  accepts_no_more start past (Polled answer) t a = refl
  accepts_no_more start past (Worked work image) t a = refl
  accepts_no_more start past BusReset t a = refl

  -- behind a command that was accepted its transfer brings none
  pub once : (start : List ℕ) (between before : List Call) (packet : List ℕ) (answer : EpAnswer) (command : Command) (call : Call) → SameTransfer between → accepts before (Out packet answer) ≡ Some command
      → EachCall (IsAnswered defaults) start (between ++ Out packet answer ∷ before) → IsAnswered defaults start (between ++ Out packet answer ∷ before) call
      → accepts (between ++ Out packet answer ∷ before) call ≡ None
  once start between before packet answer command call same s all a =
      let here : EachCall (IsAnswered defaults) start (Out packet answer ∷ before) = EachCall-later (IsAnswered defaults) start between (Out packet answer ∷ before) all in
      accepts_no_more start (between ++ Out packet answer ∷ before) call (taken_between start between before packet answer command same s here.0) a
