-- What becomes of the command of a write that fails.
use Rattle.std.proofs.Common.{◌≡◌, ℕ, suc, ◌≤◌, length, Bool, true, false, drop, IsSome, if◌then◌else◌, is_some, List, [], ◌∷◌, ◌++◌, map, Option, Some, None, Result, Ok, Err, refl, sym, ap, subst, ◌∙◌, append_assoc, arith}
use Rattle.std.specs.List.{list_any}
use Rattle.std.specs.Option.{option_or}
use Rattle.std.specs.Result.{result_ok}
use Rattle.std.proofs.lemmas.List.{map-append, append-nil}
use Rattle.layers.specs.Codes.{DefaultCodes}
use Rattle.layers.specs.declared.code.KeymapError.{KeymapError}
use Rattle.layers.specs.declared.command.Command.{Command}
use Rattle.control_ep.specs.declared.why.Why.{Why}
use Rattle.control_ep.specs.declared.answer.DeviceView.{DeviceView}
use Rattle.control_ep.specs.declared.answer.EpAnswer.{EpAnswer as Answer}
use Rattle.control_ep.specs.declared.answer.EpAnswer.TheVariants as Answers
use Rattle.control_ep.specs.declared.answer.OutStep.{OutStep}
use Rattle.control_ep.specs.declared.answer.OutStep.TheVariants.{Answered, Leds, Offer}
use Rattle.control_ep.specs.Answers.{in_answer, out_step, packet_or_stall, received_report, report_step, content}
use Rattle.control_ep.specs.Calls.{EpCall, Setup, Checked, Out as EpOut}
use Rattle.control_ep.specs.Packets.{packet_at}
use Rattle.control_ep.specs.Stage.{Begins, calls_since, last_setup, first_stall, acknowledges, is_empty_in, command_state, CommandState, NoCommand, Works, Settled, Failed, state_after, progress_of, after_command, stage}
use Rattle.control_ep.specs.Transfers.{HostReport, LedsWithId, LedsAlone, FeatureData, Takes, Stage, Rest, Sending, Taking, Waiting, Status, Stalled}
use Rattle.control_ep.proofs.Clean.{received_is}
use Rattle.control_ep.proofs.Stages.{stage-is, IsTaking, taking_is, waiting_is}
use Rattle.keymap_store.specs.declared.store.Work.{Work}
use Rattle.keymap_store.specs.declared.store.Work.TheVariants as Answer_of
use Rattle.keyboard.specs.Acknowledged.{SameTransfer}
use Rattle.keyboard.specs.Bounded.{steps_since}
use Rattle.keyboard.specs.Calls.{Call, SetUp, Out, In, Worked, setup_of, image_after, keymap, EachCall}
use Rattle.keyboard.specs.Commands.{Accepted, accepted, accepted_with, accepts, if_works, working, working_of}
use Rattle.keyboard.specs.Effects.{report_named}
use Rattle.keyboard.specs.Endpoint.{ep_calls, stage_after, view_after, verdict_reported, with_out}
use Rattle.keyboard.specs.Fate.{Fate, works, settled, failed, fate, fate_after, changes, changes_by, ended_by}
use Rattle.keyboard.specs.Feature.{command_of_bytes}
use Rattle.keyboard.specs.Conforming.{IsAnswered, IsConforming, OutAnswer}
use Rattle.keyboard.proofs.Accepting.{end_with, accepted-more, accepted-same, ended_by-failed, ended_by-idle, ended_by-settled, ended_by-working, map-end_none, fate-more}
use Rattle.keyboard.proofs.Bounding.{steps_since-more, steps_since-none, steps_since-same}
use Rattle.keyboard.proofs.Effects.{Effect, stays, takes, settles, fails, effect, ends_none_out, accepts-work, Accepts, accepted_by}
use Rattle.keyboard.proofs.Served.{Serves, serves}
use Rattle.keyboard.proofs.Standing.{ep_calls-out}
use Rattle.keyboard.proofs.Telling.{EachCall-later}
use Rattle.usb_device.specs.declared.whole_transfers.TransferError.{TransferError}
use Rattle.usb_device.specs.declared.whole_transfers.TransferError.TheVariants.{Refused, Busy, Unfinished}
use Rattle.usb_device.specs.declared.whole_transfers.Status.TheVariants.{Refuses}
use Rattle.usb_device.specs.Whole.{data_status_of, status_of}
use Rattle.usb_keyboard.specs.Plain.{plain}
use Rattle.usb_keyboard.specs.Whole.{put_off, data_calls, in_status, Fails, HasNoEffect, none_accepted, has_failed}
use Rattle.usb_keyboard.specs.representation.Whole.{WasInTime, NotConfirmed}
use Rattle.usb_keyboard.proofs.Confirming as confirming

pub same_transfer : (steps : List (Work × List ℕ)) → SameTransfer (put_off steps)
same_transfer [] = tt
same_transfer (step ∷ before) = same_transfer before

-- ---- data that were not acknowledged

pub not_taken : (answer : Answer) → data_status_of (plain answer) ≡ Refuses → answer ≡ Answers.Ack → ⊥
not_taken Answers.Ack e a = cc
not_taken Answers.Nak e a = cc
not_taken (Answers.Packet packet) e a = cc
not_taken (Answers.Stall why) e a = cc

accepts_none : (past : List Call) (packet : List ℕ) (answer : Answer) → (answer ≡ Answers.Ack → ⊥) → accepts past (Out packet answer) ≡ None
unfolding accepts
accepts_none past packet Answers.Ack n = absurd (n refl)
accepts_none past packet Answers.Nak n = refl
accepts_none past packet (Answers.Packet p) n = refl
accepts_none past packet (Answers.Stall why) n = refl

module _ (defaults : DefaultCodes) where
  pub accepted_setup : (start : List ℕ) (past : List Call) (setup : List ℕ) → accepted defaults start (SetUp setup ∷ past) ≡ accepted defaults start past
  unfolding accepts
  accepted_setup start past setup = accepted-same defaults start (SetUp setup) past (record { keeps = λ f. refl }) refl

  accepted_in : (start : List ℕ) (past : List Call) (answer : Answer) → accepted defaults start (In answer ∷ past) ≡ accepted defaults start past
  unfolding accepts
  accepted_in start past answer = accepted-same defaults start (In answer) past (record { keeps = λ f. refl }) refl

  accepted_out : (start : List ℕ) (past : List Call) (packet : List ℕ) (answer : Answer) → accepts past (Out packet answer) ≡ None → accepted defaults start (Out packet answer ∷ past) ≡ accepted defaults start past
  accepted_out start past packet answer e = accepted-same defaults start (Out packet answer) past (ends_none_out defaults packet answer) e

  pub none_taken : (start : List ℕ) (past : List Call) (setup data_ : List ℕ) (answer : Answer) → (answer ≡ Answers.Ack → ⊥) → HasNoEffect defaults start past (Out data_ answer ∷ SetUp setup ∷ [])
  none_taken start past setup data_ answer n =
      none_accepted (accepted_out start (SetUp setup ∷ past) data_ answer (accepts_none (SetUp setup ∷ past) data_ answer n) ∙ accepted_setup start past setup)

-- ---- where a status stage is put off, a command works

no_nak : (o : Option (List ℕ)) → Answers.Nak ≡ packet_or_stall o → ⊥
no_nak None e = cc
no_nak (Some packet) e = cc

nak_waiting : (now : Stage) → Answers.Nak ≡ in_answer now → now ≡ Waiting
nak_waiting Rest e = cc
nak_waiting (Sending bytes asked sent) e = absurd (no_nak (packet_at bytes asked sent) e)
nak_waiting (Taking report) e = cc
nak_waiting Waiting e = refl
nak_waiting (Status effect) e = cc
nak_waiting (Stalled why) e = cc

from_report : (kind : HostReport) (packet : List ℕ) (r : Result OutStep Why) (offered : List ℕ) → received_report kind packet ≡ r → Offer offered ≡ report_step r → content kind packet ≡ Offer offered
from_report kind packet (Ok got) offered e o = received_is kind packet got e ∙ sym o
from_report kind packet (Err why) offered e o = cc

-- what is offered is the report behind its ID, and the SETUP packet named it
offered_feature : (setup : Option (List ℕ)) (now : Stage) (byte : ℕ) (bytes offered : List ℕ) → Serves setup now → Offer offered ≡ out_step now (byte ∷ bytes)
    → (report_named setup ≡ Some FeatureData) × (drop 1 (byte ∷ bytes) ≡ offered)
offered_feature setup Rest byte bytes offered s o = cc
offered_feature setup (Sending x asked sent) byte bytes offered s o = cc
offered_feature setup (Taking LedsWithId) byte bytes offered s o = absurd (let e = from_report LedsWithId (byte ∷ bytes) (received_report LedsWithId (byte ∷ bytes)) offered refl o in cc)
offered_feature setup (Taking LedsAlone) byte bytes offered s o = absurd (let e = from_report LedsAlone (byte ∷ bytes) (received_report LedsAlone (byte ∷ bytes)) offered refl o in cc)
offered_feature setup (Taking FeatureData) byte bytes offered s o =
    let e = from_report FeatureData (byte ∷ bytes) (received_report FeatureData (byte ∷ bytes)) offered refl o in
    (s.0, cc)
offered_feature setup Waiting byte bytes offered s o = cc
offered_feature setup (Status x) byte bytes offered s o = cc
offered_feature setup (Stalled why) byte bytes offered s o = cc

-- it works because the report brings one
by_checked : (setup data_ offered : List ℕ) (view : DeviceView) (more : List EpCall) (changing : Bool)
    → stage (Checked (verdict_reported changing Answers.Ack) Answers.Ack ∷ EpOut data_ (Offer offered) ∷ Setup setup view ∷ more) ≡ Waiting → changing ≡ true
by_checked setup data_ offered view more true e = refl
by_checked setup data_ offered view more false e =
    let calls : List EpCall = Checked (verdict_reported false Answers.Ack) Answers.Ack ∷ EpOut data_ (Offer offered) ∷ Setup setup view ∷ more in
    let w = waiting_is (first_stall (calls_since calls)) (last_setup calls) (progress_of (calls_since calls)) (sym e ∙ stage-is calls) in
    absurd (let works_ = w.works in cc)

not_by_step : (setup data_ : List ℕ) (view : DeviceView) (more : List EpCall) (step : OutStep) → stage (EpOut data_ step ∷ Setup setup view ∷ more) ≡ Waiting → ⊥
not_by_step setup data_ view more step e =
    let calls : List EpCall = EpOut data_ step ∷ Setup setup view ∷ more in
    let w = waiting_is (first_stall (calls_since calls)) (last_setup calls) (progress_of (calls_since calls)) (sym e ∙ stage-is calls) in
    let works_ = w.works in cc

module _ (defaults : DefaultCodes) where
  ok_of : (entries : ℕ → ℕ → ℕ) (r : Result Command KeymapError) → changes_by defaults entries r ≡ true → (command : Command) × (r ≡ Ok command)
  ok_of entries (Ok command) e = (command, refl)
  ok_of entries (Err error) e = cc

  by_step : (setup data_ : List ℕ) (view : DeviceView) (more : List EpCall) (entries : ℕ → ℕ → ℕ) (step : OutStep) → stage (with_out defaults step data_ entries Answers.Ack (Setup setup view ∷ more)) ≡ Waiting
      → (offered : List ℕ) × (command : Command) × (Offer offered ≡ step) × (command_of_bytes offered ≡ Ok command)
  by_step setup data_ view more entries (Answered answer) e = absurd (not_by_step setup data_ view more (Answered answer) e)
  by_step setup data_ view more entries (Leds leds) e = absurd (not_by_step setup data_ view more (Leds leds) e)
  by_step setup data_ view more entries (Offer offered) e =
      let o = ok_of entries (command_of_bytes offered) (by_checked setup data_ offered view more (changes_by defaults entries (command_of_bytes offered)) e) in
      (offered, o.0, refl, o.1)

  pub setup_not_waiting : (start : List ℕ) (past : List Call) (setup : List ℕ) → stage_after defaults start (SetUp setup ∷ past) ≡ Waiting → ⊥
  unfolding ep_calls
  setup_not_waiting start past setup e =
      let calls : List EpCall = ep_calls defaults start (SetUp setup ∷ past) in
      let w = waiting_is (first_stall (calls_since calls)) (last_setup calls) (progress_of (calls_since calls)) (sym e ∙ stage-is calls) in
      let taken_ = w.is_taken in cc

  brought : (start : List ℕ) (past : List Call) (setup : List ℕ) (byte : ℕ) (bytes : List ℕ) → stage_after defaults start (Out (byte ∷ bytes) Answers.Ack ∷ SetUp setup ∷ past) ≡ Waiting
      → (command : Command) × (accepts (SetUp setup ∷ past) (Out (byte ∷ bytes) Answers.Ack) ≡ Some command)
  unfolding ep_calls
  brought start past setup byte bytes e =
      let before : List Call = SetUp setup ∷ past in
      let step : OutStep = out_step (stage_after defaults start before) (byte ∷ bytes) in
      let s = by_step setup (byte ∷ bytes) _ (ep_calls defaults start past) (keymap defaults (image_after start past)) step (ap stage (sym (ep_calls-out defaults start before (byte ∷ bytes) Answers.Ack step refl)) ∙ e) in
      let f = offered_feature (setup_of before) (stage_after defaults start before) byte bytes s.0 (serves defaults start before) s.2 in
      (s.1, confirming.accepted_by before setup (byte ∷ bytes) s.1 refl f.0 (ap (λ x. result_ok (command_of_bytes x)) f.1 ∙ ap result_ok s.3))

  waited : (start : List ℕ) (step : Work × List ℕ) (before : List (Work × List ℕ)) (base : List Call) → EachCall (IsAnswered defaults) start (put_off (step ∷ before) ++ base)
      → stage_after defaults start (put_off before ++ base) ≡ Waiting
  waited start step before base h = nak_waiting (stage_after defaults start (put_off before ++ base)) h.1.0

  pub first_waited : (start : List ℕ) (step : Work × List ℕ) (before : List (Work × List ℕ)) (base : List Call) → EachCall (IsAnswered defaults) start (put_off (step ∷ before) ++ base)
      → stage_after defaults start base ≡ Waiting
  first_waited start step [] base h = waited start step [] base h
  first_waited start step (other ∷ before) base h = first_waited start other before base h.1.1

-- ---- commands that are over

-- none of these commands works
abbrev AllOver : List Accepted → Type 0
AllOver [] = Unit {0}
AllOver (one ∷ later) = (one.fate ≡ works → ⊥) × AllOver later

none_first : (a b : Option Command) → option_or a b ≡ None → a ≡ None
none_first None b e = refl
none_first (Some c) b e = cc

none_second : (a b : Option Command) → a ≡ None → option_or a b ≡ None → b ≡ None
none_second None b n e = e
none_second (Some c) b n e = cc

is_over : (f : Fate) (command : Command) → if_works f command ≡ None → f ≡ works → ⊥
is_over works command n e = cc
is_over settled command n e = cc
is_over failed command n e = cc

all_over : (xs : List Accepted) → working_of xs ≡ None → AllOver xs
all_over [] e = tt
all_over (one ∷ later) e =
    let first = none_first (working_of later) (if_works one.fate one.command) e in
    (is_over one.fate one.command (none_second (working_of later) (if_works one.fate one.command) first e), all_over later first)

none_by : (o : Option Command) → (is_some o ≡ true → ⊥) → o ≡ None
none_by None n = refl
none_by (Some command) n = absurd (n refl)

-- ---- the stage behind the packet of a command

-- what the endpoint knows of a command, by what became of it
abbrev pub state_reported : Bool → Fate → CommandState
state_reported false f = NoCommand
state_reported true works = Works
state_reported true settled = Settled
state_reported true failed = Failed

-- the feature report was taken, no packet was stalled, and the empty packet was not given
pub record Behind (calls : List EpCall) (state : CommandState) : Type 0 where
  pub size : ℕ
  pub begins : last_setup calls ≡ Begins (Takes FeatureData) size
  pub taken : list_any acknowledges (calls_since calls) ≡ true
  pub command : command_state (calls_since calls) ≡ state
  pub unstalled : first_stall (calls_since calls) ≡ None
  pub unconfirmed : list_any is_empty_in (calls_since calls) ≡ false

pub stage_behind : (calls : List EpCall) (state : CommandState) → Behind calls state → stage calls ≡ after_command state false
stage_behind calls state b = stage-is calls ∙ rw (b.begins, b.taken, b.command, b.unstalled, b.unconfirmed) refl

pub checked_state : (changing : Bool) (setup data_ offered : List ℕ) (view : DeviceView) (more : List EpCall)
    → command_state (calls_since (Checked (verdict_reported changing Answers.Ack) Answers.Ack ∷ EpOut data_ (Offer offered) ∷ Setup setup view ∷ more)) ≡ state_reported changing works
checked_state true setup data_ offered view more = refl
checked_state false setup data_ offered view more = refl

-- a feature report that was acknowledged was due, and offered
record Due (now : Stage) (packet : List ℕ) : Type 0 where
  due : now ≡ Taking FeatureData
  offer : Offer (drop 1 packet) ≡ out_step now packet

module _ (defaults : DefaultCodes) where
  due_by : (image : List ℕ) (busy : Bool) (packet : List ℕ) (r : Result OutStep Why) → received_report FeatureData packet ≡ r → OutAnswer defaults (report_step r) image busy Answers.Ack → Offer (drop 1 packet) ≡ report_step r
  due_by image busy packet (Ok got) e a = received_is FeatureData packet got e
  due_by image busy packet (Err why) e a = cc

  is_due : (image : List ℕ) (busy : Bool) (setup : Option (List ℕ)) (packet : List ℕ) (now : Stage) → Serves setup now → report_named setup ≡ Some FeatureData → OutAnswer defaults (out_step now packet) image busy Answers.Ack
      → Due now packet
  is_due image busy setup packet Rest s n a = cc
  is_due image busy setup packet (Sending x asked sent) s n a = (let m : report_named setup ≡ None = s.0 in cc)
  is_due image busy setup packet (Taking LedsWithId) s n a = (let m : report_named setup ≡ Some LedsWithId = s.0 in cc)
  is_due image busy setup packet (Taking LedsAlone) s n a = (let m : report_named setup ≡ Some LedsAlone = s.0 in cc)
  is_due image busy setup packet (Taking FeatureData) s n a = record { due = refl; offer = due_by image busy packet (received_report FeatureData packet) refl a }
  is_due image busy setup packet Waiting s n a = cc
  is_due image busy setup packet (Status x) s n a = cc
  is_due image busy setup packet (Stalled why) s n a = cc

  behind_data : (start : List ℕ) (past : List Call) (setup data_ : List ℕ) (command : Command) → accepts (SetUp setup ∷ past) (Out data_ Answers.Ack) ≡ Some command → IsAnswered defaults start (SetUp setup ∷ past) (Out data_ Answers.Ack)
      → Behind (ep_calls defaults start (Out data_ Answers.Ack ∷ SetUp setup ∷ past)) (state_reported (changes defaults (keymap defaults (image_after start past)) command) works)
  unfolding ep_calls
  behind_data start past setup data_ command e a =
      let before : List Call = SetUp setup ∷ past in
      let calls : List EpCall = ep_calls defaults start before in
      let entries : ℕ → ℕ → ℕ = keymap defaults (image_after start past) in
      let by : Accepts before data_ Answers.Ack command = accepted_by before data_ Answers.Ack command e in
      let d : Due (stage_after defaults start before) data_ =
      is_due (image_after start before) (is_some (working defaults start before)) (setup_of before) data_ (stage_after defaults start before) (serves defaults start before) by.names a in
      let t : IsTaking FeatureData (first_stall (calls_since calls)) (last_setup calls) (progress_of (calls_since calls)) =
      taking_is FeatureData (first_stall (calls_since calls)) (last_setup calls) (progress_of (calls_since calls)) (sym d.due ∙ stage-is calls) in
      let state : CommandState = state_reported (changes defaults entries command) works in
      let P : List EpCall → Type 0 = λ l. Behind l state in
      subst P (sym (ep_calls-out defaults start before data_ Answers.Ack (Offer (drop 1 data_)) d.offer))
      (record {
        size = t.length;
        begins = t.begins;
        taken = refl;
        command = checked_state (changes_by defaults entries (command_of_bytes (drop 1 data_))) setup data_ (drop 1 data_) (view_after defaults start past) (ep_calls defaults start past)
            ∙ ap (λ (r : Result Command KeymapError). state_reported (changes_by defaults entries r) works) by.reads;
        unstalled = refl;
        unconfirmed = refl;
      })

  with_state : (calls : List EpCall) (state other : CommandState) → state ≡ other → Behind calls state → Behind calls other
  with_state calls state other e b = (let P : CommandState → Type 0 = λ x. Behind calls x in subst P e b)

  settled_state : (changing : Bool) (f : Fate) (image : List ℕ) → state_after (state_reported changing f) Settled ≡ state_reported changing (ended_by defaults (Worked Answer_of.Settled image) f)
  settled_state false f image = refl
  settled_state true works image = refl
  settled_state true settled image = refl
  settled_state true failed image = refl

  failed_state : (changing : Bool) (f : Fate) (image : List ℕ) → state_after (state_reported changing f) Failed ≡ state_reported changing (ended_by defaults (Worked Answer_of.Failed image) f)
  failed_state false f image = refl
  failed_state true works image = refl
  failed_state true settled image = refl
  failed_state true failed image = refl

  behind_more : (start : List ℕ) (past : List Call) (changing : Bool) (f : Fate) (work : Work) (image : List ℕ) → Behind (ep_calls defaults start past) (state_reported changing f)
      → Behind (ep_calls defaults start (Worked work image ∷ In Answers.Nak ∷ past)) (state_reported changing (ended_by defaults (Worked work image) f))
  unfolding ep_calls
  behind_more start past changing f Answer_of.Idle image b =
      with_state (ep_calls defaults start (In Answers.Nak ∷ past)) (state_reported changing f) (state_reported changing (ended_by defaults (Worked Answer_of.Idle image) f)) (ap (state_reported changing) (sym (ended_by-idle defaults image f)))
      (record { size = b.size; begins = b.begins; taken = b.taken; command = b.command; unstalled = rw b.unstalled refl; unconfirmed = b.unconfirmed })
  behind_more start past changing f Answer_of.Working image b =
      with_state (ep_calls defaults start (In Answers.Nak ∷ past)) (state_reported changing f) (state_reported changing (ended_by defaults (Worked Answer_of.Working image) f)) (ap (state_reported changing) (sym (ended_by-working defaults image f)))
      (record { size = b.size; begins = b.begins; taken = b.taken; command = b.command; unstalled = rw b.unstalled refl; unconfirmed = b.unconfirmed })
  behind_more start past changing f Answer_of.Settled image b = record {
    size = b.size;
    begins = b.begins;
    taken = b.taken;
    command = ap (λ (x : CommandState). state_after x Settled) b.command ∙ settled_state changing f image;
    unstalled = rw b.unstalled refl;
    unconfirmed = b.unconfirmed;
  }
  behind_more start past changing f Answer_of.Failed image b = record {
    size = b.size;
    begins = b.begins;
    taken = b.taken;
    command = ap (λ (x : CommandState). state_after x Failed) b.command ∙ failed_state changing f image;
    unstalled = rw b.unstalled refl;
    unconfirmed = b.unconfirmed;
  }

  pub behind_all : (start : List ℕ) (steps : List (Work × List ℕ)) (base : List Call) (changing : Bool) → Behind (ep_calls defaults start base) (state_reported changing works)
      → Behind (ep_calls defaults start (put_off steps ++ base)) (state_reported changing (fate_after defaults (put_off steps)))
  behind_all start [] base changing b = b
  behind_all start (step ∷ before) base changing b =
      behind_more start (put_off before ++ base) changing (fate_after defaults (put_off before)) step.0 step.1 (behind_all start before base changing b)

  stage_waits : (start : List ℕ) (past : List Call) (setup data_ : List ℕ) (command : Command) (steps : List (Work × List ℕ)) → accepts (SetUp setup ∷ past) (Out data_ Answers.Ack) ≡ Some command
      → IsAnswered defaults start (SetUp setup ∷ past) (Out data_ Answers.Ack)
      → stage_after defaults start (put_off steps ++ Out data_ Answers.Ack ∷ SetUp setup ∷ past)
      ≡ after_command (state_reported (changes defaults (keymap defaults (image_after start past)) command) (fate_after defaults (put_off steps))) false
  stage_waits start past setup data_ command steps e a =
      let base : List Call = Out data_ Answers.Ack ∷ SetUp setup ∷ past in
      let changing : Bool = changes defaults (keymap defaults (image_after start past)) command in
      stage_behind (ep_calls defaults start (put_off steps ++ base)) (state_reported changing (fate_after defaults (put_off steps)))
      (behind_all start steps base changing (behind_data start past setup data_ command e a))

  -- ---- the accepted commands

  ended_before : (start : List ℕ) (past : List Call) (setup data_ : List ℕ) (command : Command) → EachCall (IsAnswered defaults) start (Out data_ Answers.Ack ∷ SetUp setup ∷ past)
      → accepts (SetUp setup ∷ past) (Out data_ Answers.Ack) ≡ Some command → AllOver (accepted defaults start past)
  unfolding working
  ended_before start past setup data_ command h e =
      let before : List Call = SetUp setup ∷ past in
      let rests : working_of (accepted defaults start before) ≡ None = none_by (working_of (accepted defaults start before)) (free (effect defaults start before (Out data_ Answers.Ack) h.0)) in
      all_over (accepted defaults start past) (ap working_of (sym (accepted_setup defaults start past setup)) ∙ rests)
    where
      other : (o : Option Command) → o ≡ None → o ≡ Some command → ⊥
      other o n s = cc

      free : Effect defaults start (SetUp setup ∷ past) (Out data_ Answers.Ack) → is_some (working_of (accepted defaults start (SetUp setup ∷ past))) ≡ true → ⊥
      free (stays k n i) = absurd (other (accepts (SetUp setup ∷ past) (Out data_ Answers.Ack)) n e)
      free (takes c k n i f) = f
      free (settles c k n w i) = absurd (other (accepts (SetUp setup ∷ past) (Out data_ Answers.Ack)) n e)
      free (fails c k n w i) = absurd (other (accepts (SetUp setup ∷ past) (Out data_ Answers.Ack)) n e)

  over_same : (call : Call) (f : Fate) → (f ≡ works → ⊥) → ended_by defaults call f ≡ f
  over_same call works n = absurd (n refl)
  over_same call settled n = ended_by-settled defaults call
  over_same call failed n = ended_by-failed defaults call

  map-ended : (call : Call) (xs : List Accepted) → AllOver xs → map (end_with defaults call) xs ≡ xs
  map-ended call [] h = refl
  map-ended call (one ∷ xs) h =
      ap (λ (f : Fate). let x : Accepted = record { command = one.command; fate = f } in x ∷ map (end_with defaults call) xs) (over_same call one.fate h.0)
      ∙ ap (λ (ys : List Accepted). one ∷ ys) (map-ended call xs h.1)

  accepted_waits : (start : List ℕ) (past : List Call) (setup data_ : List ℕ) (command : Command) (steps : List (Work × List ℕ)) → accepts (SetUp setup ∷ past) (Out data_ Answers.Ack) ≡ Some command
      → AllOver (accepted defaults start past)
      → accepted defaults start (put_off steps ++ Out data_ Answers.Ack ∷ SetUp setup ∷ past)
      ≡ accepted defaults start past ++ record { command = command; fate = fate defaults (keymap defaults (image_after start past)) command (put_off steps) } ∷ []
  accepted_waits start past setup data_ command [] e h =
      let before : List Call = SetUp setup ∷ past in
      let call : Call = Out data_ Answers.Ack in
      let entries : ℕ → ℕ → ℕ = keymap defaults (image_after start past) in
      let one : Accepted = record { command = command; fate = fate defaults entries command [] } in
      accepted-more defaults start call before
      ∙ ap (λ (o : Option Command). map (end_with defaults call) (accepted defaults start before) ++ accepted_with defaults entries [] o) e
      ∙ ap (λ (xs : List Accepted). xs ++ one ∷ []) (map-end_none defaults call (ends_none_out defaults data_ Answers.Ack) (accepted defaults start before) ∙ accepted_setup defaults start past setup)
  accepted_waits start past setup data_ command (step ∷ steps) e h =
      let rest : List Call = put_off steps ++ Out data_ Answers.Ack ∷ SetUp setup ∷ past in
      let call : Call = Worked step.0 step.1 in
      let entries : ℕ → ℕ → ℕ = keymap defaults (image_after start past) in
      let was : Fate = fate defaults entries command (put_off steps) in
      let one : Accepted = record { command = command; fate = was } in
      let now : fate defaults entries command (put_off (step ∷ steps)) ≡ ended_by defaults call was =
      fate-more defaults entries command call (In Answers.Nak ∷ put_off steps) ∙ ap (ended_by defaults call) (fate-more defaults entries command (In Answers.Nak) (put_off steps)) in
      accepted-more defaults start call (In Answers.Nak ∷ rest)
      ∙ ap (λ (o : Option Command). map (end_with defaults call) (accepted defaults start (In Answers.Nak ∷ rest)) ++ accepted_with defaults (keymap defaults (image_after start rest)) [] o) (accepts-work (In Answers.Nak ∷ rest) step.0 step.1)
      ∙ append-nil (map (end_with defaults call) (accepted defaults start (In Answers.Nak ∷ rest)))
      ∙ ap (map (end_with defaults call)) (accepted_in defaults start rest Answers.Nak ∙ accepted_waits start past setup data_ command steps e h)
      ∙ map-append (end_with defaults call) (accepted defaults start past) (one ∷ [])
      ∙ ap (λ (xs : List Accepted). xs ++ record { command = command; fate = ended_by defaults call was } ∷ []) (map-ended call (accepted defaults start past) h)
      ∙ ap (λ (f : Fate). accepted defaults start past ++ record { command = command; fate = f } ∷ []) (sym now)

  -- ---- the ends

  pub failed_fate : (changing : Bool) (f : Fate) (answer : Answer) → answer ≡ in_answer (after_command (state_reported changing f) false) → status_of (plain answer) ≡ Refuses → (if changing then f else settled) ≡ failed
  failed_fate false f answer e s = absurd (let t = subst (λ (a : Answer). status_of (plain a) ≡ Refuses) e s in cc)
  failed_fate true works answer e s = absurd (let t = subst (λ (a : Answer). status_of (plain a) ≡ Refuses) e s in cc)
  failed_fate true settled answer e s = absurd (let t = subst (λ (a : Answer). status_of (plain a) ≡ Refuses) e s in cc)
  failed_fate true failed answer e s = refl

  works_fate : (changing : Bool) (f : Fate) → Waiting ≡ after_command (state_reported changing f) false → (if changing then f else settled) ≡ works
  works_fate false f e = cc
  works_fate true works e = refl
  works_fate true settled e = cc
  works_fate true failed e = cc

  working_last : (xs : List Accepted) (command : Command) → working_of (xs ++ record { command = command; fate = works } ∷ []) ≡ Some command
  working_last [] command = refl
  working_last (one ∷ xs) command = rw (working_last xs command) refl

  steps_made : (start : List ℕ) (past : List Call) (setup data_ : List ℕ) (command : Command) (steps : List (Work × List ℕ)) → accepts (SetUp setup ∷ past) (Out data_ Answers.Ack) ≡ Some command
      → steps_since (put_off steps ++ Out data_ Answers.Ack ∷ SetUp setup ∷ past) ≡ length steps
  unfolding accepts
  steps_made start past setup data_ command [] e = steps_since-none (Out data_ Answers.Ack) (SetUp setup ∷ past) command e
  steps_made start past setup data_ command (step ∷ steps) e =
      let rest : List Call = put_off steps ++ Out data_ Answers.Ack ∷ SetUp setup ∷ past in
      steps_since-more (Worked step.0 step.1) (In Answers.Nak ∷ rest) (λ count. refl) refl
      ∙ ap suc (steps_since-same (In Answers.Nak) rest (λ count. refl) refl ∙ steps_made start past setup data_ command steps e)

  -- a command at work that was in time made fewer steps
  in_time_steps : (start : List ℕ) (past : List Call) (setup data_ : List ℕ) (command : Command) (steps : List (Work × List ℕ)) → accepts (SetUp setup ∷ past) (Out data_ Answers.Ack) ≡ Some command
      → EachCall (IsAnswered defaults) start (Out data_ Answers.Ack ∷ SetUp setup ∷ past) → stage_after defaults start (put_off steps ++ Out data_ Answers.Ack ∷ SetUp setup ∷ past) ≡ Waiting
      → (IsSome (working defaults start (put_off steps ++ Out data_ Answers.Ack ∷ SetUp setup ∷ past)) → suc (steps_since (put_off steps ++ Out data_ Answers.Ack ∷ SetUp setup ∷ past)) ≤ 387) → suc (length steps) ≤ 387
  unfolding working
  in_time_steps start past setup data_ command steps e h w t =
      let changing : Bool = changes defaults (keymap defaults (image_after start past)) command in
      let now : fate defaults (keymap defaults (image_after start past)) command (put_off steps) ≡ works =
      works_fate changing (fate_after defaults (put_off steps)) (sym w ∙ stage_waits start past setup data_ command steps e h.0) in
      let all = accepted_waits start past setup data_ command steps e (ended_before start past setup data_ command h e)
      ∙ ap (λ (f : Fate). accepted defaults start past ++ record { command = command; fate = f } ∷ []) now in
      let at_work : working_of (accepted defaults start (put_off steps ++ Out data_ Answers.Ack ∷ SetUp setup ∷ past)) ≡ Some command = ap working_of all ∙ working_last (accepted defaults start past) command in
      let some = t (rw at_work refl) in
      let made = steps_made start past setup data_ command steps e in
      omega (arith, some, made)

  -- what is accepted behind a status stage that was stalled
  data Without (start : List ℕ) (past now : List Call) : Type 0 where
    none : accepted defaults start now ≡ accepted defaults start past → Without start past now
    lost : (command : Command) → accepted defaults start now ≡ accepted defaults start past ++ record { command = command; fate = failed } ∷ [] → Without start past now

  as_effect : (start : List ℕ) (past now since : List Call) → since ++ past ≡ now → Without start past now → HasNoEffect defaults start past since
  as_effect start past now since e (none a) = none_accepted (ap (accepted defaults start) e ∙ a)
  as_effect start past now since e (lost command a) = has_failed command (ap (accepted defaults start) e ∙ a)

  by_command : (start : List ℕ) (past : List Call) (setup : List ℕ) (byte : ℕ) (bytes : List ℕ) (answer : Answer) (steps : List (Work × List ℕ)) (o : Option Command)
      → accepts (SetUp setup ∷ past) (Out (byte ∷ bytes) Answers.Ack) ≡ o → status_of (plain answer) ≡ Refuses
      → EachCall (IsAnswered defaults) start (In answer ∷ put_off steps ++ Out (byte ∷ bytes) Answers.Ack ∷ SetUp setup ∷ past)
      → Without start past (In answer ∷ put_off steps ++ Out (byte ∷ bytes) Answers.Ack ∷ SetUp setup ∷ past)
  by_command start past setup byte bytes answer [] None e s h =
      none (accepted_in defaults start (Out (byte ∷ bytes) Answers.Ack ∷ SetUp setup ∷ past) answer ∙ accepted_out defaults start (SetUp setup ∷ past) (byte ∷ bytes) Answers.Ack e ∙ accepted_setup defaults start past setup)
  by_command start past setup byte bytes answer (step ∷ steps) None e s h =
      let b = brought defaults start past setup byte bytes (first_waited defaults start step steps (Out (byte ∷ bytes) Answers.Ack ∷ SetUp setup ∷ past) h.1) in
      absurd (let n = b.1 in let m = sym e ∙ n in cc)
  by_command start past setup byte bytes answer steps (Some command) e s h =
      let base : List Call = Out (byte ∷ bytes) Answers.Ack ∷ SetUp setup ∷ past in
      let here : EachCall (IsAnswered defaults) start base = EachCall-later (IsAnswered defaults) start (put_off steps) base h.1 in
      let changing : Bool = changes defaults (keymap defaults (image_after start past)) command in
      let gone : fate defaults (keymap defaults (image_after start past)) command (put_off steps) ≡ failed =
      failed_fate changing (fate_after defaults (put_off steps)) answer (h.0 ∙ ap in_answer (stage_waits start past setup (byte ∷ bytes) command steps e here.0)) s in
      lost command (accepted_in defaults start (put_off steps ++ base) answer ∙ accepted_waits start past setup (byte ∷ bytes) command steps e (ended_before start past setup (byte ∷ bytes) command here e)
      ∙ ap (λ (f : Fate). accepted defaults start past ++ record { command = command; fate = f } ∷ []) gone)

  stalled : (start : List ℕ) (past : List Call) (setup data_ : List ℕ) (answer : Answer) (steps : List (Work × List ℕ)) → status_of (plain answer) ≡ Refuses
      → EachCall (IsAnswered defaults) start (In answer ∷ put_off steps ++ (data_calls data_ ++ SetUp setup ∷ past)) → Without start past (In answer ∷ put_off steps ++ (data_calls data_ ++ SetUp setup ∷ past))
  stalled start past setup [] answer [] s h = none (accepted_in defaults start (SetUp setup ∷ past) answer ∙ accepted_setup defaults start past setup)
  stalled start past setup [] answer (step ∷ steps) s h = absurd (setup_not_waiting defaults start past setup (first_waited defaults start step steps (SetUp setup ∷ past) h.1))
  stalled start past setup (byte ∷ bytes) answer steps s h = by_command start past setup byte bytes answer steps (accepts (SetUp setup ∷ past) (Out (byte ∷ bytes) Answers.Ack)) refl s h

  -- no status stage is put off so often
  too_long : (start : List ℕ) (past : List Call) (setup data_ : List ℕ) (steps : List (Work × List ℕ)) → length steps ≡ 388 → WasInTime defaults start (data_calls data_ ++ SetUp setup ∷ past) steps
      → EachCall (IsAnswered defaults) start (put_off steps ++ (data_calls data_ ++ SetUp setup ∷ past)) → ⊥
  too_long start past setup data_ [] n t h = omega (arith, n)
  too_long start past setup [] (step ∷ steps) n t h = setup_not_waiting defaults start past setup (first_waited defaults start step steps (SetUp setup ∷ past) h)
  too_long start past setup (byte ∷ bytes) (step ∷ steps) n t h =
      let base : List Call = Out (byte ∷ bytes) Answers.Ack ∷ SetUp setup ∷ past in
      let b = brought defaults start past setup byte bytes (first_waited defaults start step steps base h) in
      let here : EachCall (IsAnswered defaults) start base = EachCall-later (IsAnswered defaults) start (put_off (step ∷ steps)) base h in
      let few = in_time_steps start past setup (byte ∷ bytes) b.0 steps b.1 here (waited defaults start step steps base h) t in
      omega (arith, n, few)

  pub ended : (start : List ℕ) (past : List Call) (setup data_ : List ℕ) (e : TransferError) (taken status : List Call) → taken ≡ data_calls data_
      → IsConforming defaults start (status ++ (taken ++ SetUp setup ∷ past)) → NotConfirmed defaults start (taken ++ SetUp setup ∷ past) e status
      → Fails e setup data_ (status ++ (taken ++ SetUp setup ∷ [])) × HasNoEffect defaults start past (status ++ (taken ++ SetUp setup ∷ []))
  ended start past setup data_ Refused taken status t h n =
      let now : List Call = In n.0 ∷ put_off n.1 ++ (data_calls data_ ++ SetUp setup ∷ past) in
      let is : status ++ (taken ++ SetUp setup ∷ past) ≡ now = ap (λ l. l ++ (taken ++ SetUp setup ∷ past)) n.3 ∙ ap (λ l. In n.0 ∷ put_off n.1 ++ (l ++ SetUp setup ∷ past)) t in
      let same : (status ++ (taken ++ SetUp setup ∷ [])) ++ past ≡ now =
      append_assoc status (taken ++ SetUp setup ∷ []) past ∙ ap (λ l. status ++ l) (append_assoc taken (SetUp setup ∷ []) past) ∙ is in
      let P : List Call → Type 0 = λ l. EachCall (IsAnswered defaults) start l in (
        in_status n.0 n.1 n.2 (ap (λ l. l ++ (taken ++ SetUp setup ∷ [])) n.3 ∙ ap (λ l. In n.0 ∷ put_off n.1 ++ (l ++ SetUp setup ∷ [])) t),
        as_effect start past now (status ++ (taken ++ SetUp setup ∷ [])) same (stalled start past setup data_ n.0 n.1 n.2 (subst P is h)),
      )
  ended start past setup data_ Busy taken status t h n = absurd n
  ended start past setup data_ Unfinished taken status t h n =
      let is : status ++ (taken ++ SetUp setup ∷ past) ≡ put_off n.0 ++ (data_calls data_ ++ SetUp setup ∷ past) =
      ap (λ l. l ++ (taken ++ SetUp setup ∷ past)) n.3 ∙ ap (λ l. put_off n.0 ++ (l ++ SetUp setup ∷ past)) t in
      let P : List Call → Type 0 = λ l. EachCall (IsAnswered defaults) start l in
      let Q : List Call → Type 0 = λ l. WasInTime defaults start (l ++ SetUp setup ∷ past) n.0 in
      absurd (too_long start past setup data_ n.0 n.1 (subst Q t n.2) (subst P is h))
