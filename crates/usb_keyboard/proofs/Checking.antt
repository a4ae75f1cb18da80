-- A write ends as its checks say.
use Rattle.std.proofs.Common.{◌≡◌, ◌≢◌, ◌==◌, ℕ, ◌≤◌, length, Bool, true, false, drop, is_some, nat_lt, slice_index, if◌then◌else◌, List, [], ◌∷◌, ◌++◌, Result, Ok, Err, refl, sym, ap, subst, ◌∙◌}
use Rattle.std.specs.Prelude.{MatchResult}
use Rattle.arrayvec.specs.ArrayVec.{ArrayVec}
use Rattle.layers.specs.Codes.{layers, keys, DefaultCodes}
use Rattle.layers.specs.declared.code.KeymapError.{KeymapError}
use Rattle.layers.specs.declared.command.Command.{Command}
use Rattle.control_ep.specs.declared.why.Why.{Why}
use Rattle.control_ep.specs.declared.why.Why.TheVariants.{WrongStage, BadLayer, BadKey}
use Rattle.control_ep.specs.declared.answer.DeviceView.{DeviceView}
use Rattle.control_ep.specs.declared.answer.Effect.TheVariants.{Nothing}
use Rattle.control_ep.specs.declared.answer.EpAnswer.{EpAnswer as Answer}
use Rattle.control_ep.specs.declared.answer.EpAnswer.TheVariants as Answers
use Rattle.control_ep.specs.declared.answer.OutStep.{OutStep}
use Rattle.control_ep.specs.declared.answer.OutStep.TheVariants.{Leds, Offer}
use Rattle.control_ep.specs.Answers.{in_answer, out_step, received_report, report_step}
use Rattle.control_ep.specs.Calls.{EpCall, Setup, Out as EpOut}
use Rattle.control_ep.specs.Requests.{request_of, transfer_of}
use Rattle.control_ep.specs.Stage.{outcome_of, calls_since, last_setup, first_stall, progress_of, stage_with, stage}
use Rattle.control_ep.specs.Transfers.{HostReport, LedsWithId, LedsAlone, FeatureData, Transfer, Reads, Takes, Sets, Stage, Sending, Taking, Status}
use Rattle.control_ep.proofs.Clean.{received_is}
use Rattle.control_ep.proofs.Stages.{stage-is, IsTaking, taking_is}
use Rattle.keymap_store.specs.declared.store.Work.{Work}
use Rattle.keymap_store.specs.declared.store.Work.TheVariants as Answer_of
use Rattle.keyboard.specs.Acknowledged.{confirmation}
use Rattle.keyboard.specs.Calls.{Call, SetUp, Out, In, image_after, keymap, EachCall}
use Rattle.keyboard.specs.Commands.{working, working_of}
use Rattle.keyboard.specs.Endpoint.{ep_calls, stage_after, view_after}
use Rattle.keyboard.specs.Fate.{Fate, works, settled, failed, fate_after, changes_by, ended_by_work}
use Rattle.keyboard.specs.Feature.{Where, yes, no, ReadAnswer, FeatureAnswer, command_of_bytes}
use Rattle.keyboard.specs.Conforming.{IsAnswered, IsConforming, OutAnswer}
use Rattle.keyboard.specs.Single.{NoneFails}
use Rattle.keyboard.proofs.Single.{out_once}
use Rattle.keyboard.proofs.Standing.{ep_calls-out}
use Rattle.keyboard.proofs.Telling.{EachCall-later}
use Rattle.usb_device.specs.declared.whole_transfers.TransferError.{TransferError}
use Rattle.usb_device.specs.declared.whole_transfers.TransferError.TheVariants.{Refused, Busy, Unfinished}
use Rattle.usb_device.specs.declared.whole_transfers.Status.TheVariants.{Done, Waits, Refuses}
use Rattle.usb_device.specs.Whole.{data_status_of, status_of}
use Rattle.usb_keyboard.specs.Checks.{without_data, ReportAnswer, RequestAnswer, WriteAnswer, IsChecked, FailsBy}
use Rattle.usb_keyboard.specs.Plain.{plain}
use Rattle.usb_keyboard.specs.Whole.{put_off, data_calls}
use Rattle.usb_keyboard.specs.representation.Whole.{Gives, IsStatusStage, NotConfirmed}
use Rattle.usb_keyboard.proofs.Ending.{accepted_setup, setup_not_waiting, first_waited, state_reported, checked_state, Behind, stage_behind, behind_all, failed_fate, ended}
use Rattle.usb_keyboard.proofs.Reading.{reads_sized, first_packet}

-- ---- the first stage of a transfer

abbrev pub first_stage : Result Transfer Why → ℕ → Stage
first_stage r asked = stage_with (outcome_of r asked) (progress_of [])

module _ (defaults : DefaultCodes) where
  pub stage_begun : (start : List ℕ) (past : List Call) (setup : List ℕ) → stage_after defaults start (SetUp setup ∷ past) ≡ first_stage (transfer_of (request_of setup) (view_after defaults start past)) (request_of setup).length
  unfolding ep_calls stage
  stage_begun start past setup = refl

  working_setup : (start : List ℕ) (past : List Call) (setup : List ℕ) → working defaults start (SetUp setup ∷ past) ≡ working defaults start past
  unfolding working
  working_setup start past setup = ap working_of (accepted_setup defaults start past setup)

  -- ---- the data

  none_due : (image : List ℕ) (busy none : Bool) (bytes : List ℕ) (asked byte : ℕ) (rest : List ℕ) (answer : Answer)
      → OutAnswer defaults (out_step (if none then Status Nothing else Sending bytes asked 0) (byte ∷ rest)) image busy answer
      → answer ≡ (if none then without_data (byte ∷ rest) else Answers.Stall WrongStage)
  none_due image busy true bytes asked byte rest answer a = a
  none_due image busy false bytes asked byte rest answer a = a

  data_by : (image : List ℕ) (busy : Bool) (r : Result Transfer Why) (asked byte : ℕ) (rest : List ℕ) (answer : Answer) → OutAnswer defaults (out_step (first_stage r asked) (byte ∷ rest)) image busy answer
      → RequestAnswer defaults image busy r asked (byte ∷ rest) answer
  data_by image busy (Err why) asked byte rest answer a = a
  data_by image busy (Ok (Reads bytes)) asked byte rest answer a = none_due image busy (asked == 0) bytes asked byte rest answer a
  data_by image busy (Ok (Takes report)) asked byte rest answer a = a
  data_by image busy (Ok (Sets effect)) asked byte rest answer a = a

  data_answer : (start : List ℕ) (past : List Call) (setup : List ℕ) (byte : ℕ) (rest : List ℕ) (answer : Answer) → IsAnswered defaults start (SetUp setup ∷ past) (Out (byte ∷ rest) answer)
      → WriteAnswer defaults start past setup (byte ∷ rest) answer
  data_answer start past setup byte rest answer a =
      let r : Result Transfer Why = transfer_of (request_of setup) (view_after defaults start past) in
      let image : List ℕ = image_after start past in
      let P : Stage → Type 0 = λ s. OutAnswer defaults (out_step s (byte ∷ rest)) image (is_some (working defaults start (SetUp setup ∷ past))) answer in
      let Q : Bool → Type 0 = λ b. OutAnswer defaults (out_step (first_stage r (request_of setup).length) (byte ∷ rest)) image b answer in
      data_by image (is_some (working defaults start past)) r (request_of setup).length byte rest answer (subst Q (ap is_some (working_setup start past setup)) (subst P (stage_begun start past setup) a))

  -- ---- a write without data

  read_done : (none : Bool) (bytes : List ℕ) (asked : ℕ) → 1 ≤ length bytes → (asked == 0) ≡ none → status_of (plain (in_answer (if none then Status Nothing else Sending bytes asked 0))) ≡ Done
      → Answers.Ack ≡ (if none then Answers.Ack else Answers.Stall WrongStage)
  read_done true bytes asked l n e = refl
  read_done false bytes asked l n e = absurd (first_packet bytes asked l n e)

  in_done : (image : List ℕ) (busy : Bool) (r : Result Transfer Why) (asked : ℕ) → ((bytes : List ℕ) → r ≡ Ok (Reads bytes) → 1 ≤ length bytes) → status_of (plain (in_answer (first_stage r asked))) ≡ Done
      → RequestAnswer defaults image busy r asked [] Answers.Ack
  in_done image busy (Err why) asked l e = cc
  in_done image busy (Ok (Reads bytes)) asked l e = read_done (asked == 0) bytes asked (l bytes refl) refl e
  in_done image busy (Ok (Takes report)) asked l e = cc
  in_done image busy (Ok (Sets effect)) asked l e = refl

  read_refused : (none : Bool) (bytes : List ℕ) (asked : ℕ) → status_of (plain (in_answer (if none then Status Nothing else Sending bytes asked 0))) ≡ Refuses
      → (why : Why) × (Answers.Stall why ≡ (if none then Answers.Ack else Answers.Stall WrongStage))
  read_refused true bytes asked e = cc
  read_refused false bytes asked e = (WrongStage, refl)

  in_refused : (image : List ℕ) (busy : Bool) (r : Result Transfer Why) (asked : ℕ) → status_of (plain (in_answer (first_stage r asked))) ≡ Refuses
      → (why : Why) × RequestAnswer defaults image busy r asked [] (Answers.Stall why)
  in_refused image busy (Err why) asked e = (why, refl)
  in_refused image busy (Ok (Reads bytes)) asked e = read_refused (asked == 0) bytes asked e
  in_refused image busy (Ok (Takes report)) asked e = (WrongStage, refl)
  in_refused image busy (Ok (Sets effect)) asked e = cc

  -- its status stage is not put off
  in_first : (start : List ℕ) (past : List Call) (setup : List ℕ) (answer : Answer) (steps : List (Work × List ℕ)) → EachCall (IsAnswered defaults) start (In answer ∷ put_off steps ++ SetUp setup ∷ past)
      → answer ≡ in_answer (first_stage (transfer_of (request_of setup) (view_after defaults start past)) (request_of setup).length)
  in_first start past setup answer [] h = h.0 ∙ ap in_answer (stage_begun start past setup)
  in_first start past setup answer (step ∷ steps) h = absurd (setup_not_waiting defaults start past setup (first_waited defaults start step steps (SetUp setup ∷ past) h.1))

  -- ---- the checks come to one answer

  report_once : (image : List ℕ) (busy : Bool) (report : HostReport) (data_ : List ℕ) (a b : Answer) → ReportAnswer defaults image busy report data_ a → ReportAnswer defaults image busy report data_ b → a ≡ b
  report_once image busy report [] a b x y = x ∙ sym y
  report_once image busy report (byte ∷ rest) a b x y = out_once defaults (report_step (received_report report (byte ∷ rest))) image busy a b x y

  request_once : (image : List ℕ) (busy : Bool) (r : Result Transfer Why) (asked : ℕ) (data_ : List ℕ) (a b : Answer) → RequestAnswer defaults image busy r asked data_ a → RequestAnswer defaults image busy r asked data_ b → a ≡ b
  request_once image busy (Err why) asked data_ a b x y = x ∙ sym y
  request_once image busy (Ok (Reads bytes)) asked data_ a b x y = x ∙ sym y
  request_once image busy (Ok (Takes report)) asked data_ a b x y = report_once image busy report data_ a b x y
  request_once image busy (Ok (Sets effect)) asked data_ a b x y = x ∙ sym y

  checked : (start : List ℕ) (past : List Call) (setup data_ : List ℕ) (answer : Answer) → WriteAnswer defaults start past setup data_ answer → IsChecked defaults start past setup data_ answer
  checked start past setup data_ answer w = record {
    given = w;
    only = λ other o. request_once (image_after start past) (is_some (working defaults start past)) (transfer_of (request_of setup) (view_after defaults start past)) (request_of setup).length data_ other answer o w;
  }

  -- ---- behind data that were acknowledged

  -- the transfer is at its status stage, or it brings a command
  data After (start : List ℕ) (base : List Call) : Type 0 where
    rests : stage_after defaults start base ≡ Status Nothing → After start base
    brings : (changing : Bool) → Behind (ep_calls defaults start base) (state_reported changing works) → After start base

  behind_leds : (setup packet : List ℕ) (view : DeviceView) (more : List EpCall) (leds : ℕ) (report : HostReport) → transfer_of (request_of setup) view ≡ Ok (Takes report)
      → stage (EpOut packet (Leds leds) ∷ Setup setup view ∷ more) ≡ Status Nothing
  unfolding stage
  behind_leds setup packet view more leds report e = rw e refl

  after_leds : (start : List ℕ) (past : List Call) (setup packet : List ℕ) (leds : ℕ) (report : HostReport) → transfer_of (request_of setup) (view_after defaults start past) ≡ Ok (Takes report)
      → Leds leds ≡ out_step (stage_after defaults start (SetUp setup ∷ past)) packet → After start (Out packet Answers.Ack ∷ SetUp setup ∷ past)
  unfolding ep_calls
  after_leds start past setup packet leds report e s =
      rests (ap stage (ep_calls-out defaults start (SetUp setup ∷ past) packet Answers.Ack (Leds leds) s) ∙ behind_leds setup packet (view_after defaults start past) (ep_calls defaults start past) leds report e)

  after_offer : (start : List ℕ) (past : List Call) (setup packet : List ℕ) → stage_after defaults start (SetUp setup ∷ past) ≡ Taking FeatureData
      → Offer (drop 1 packet) ≡ out_step (stage_after defaults start (SetUp setup ∷ past)) packet → After start (Out packet Answers.Ack ∷ SetUp setup ∷ past)
  unfolding ep_calls
  after_offer start past setup packet due offer =
      let before : List Call = SetUp setup ∷ past in
      let calls : List EpCall = ep_calls defaults start before in
      let entries : ℕ → ℕ → ℕ = keymap defaults (image_after start past) in
      let changing : Bool = changes_by defaults entries (command_of_bytes (drop 1 packet)) in
      let t : IsTaking FeatureData (first_stall (calls_since calls)) (last_setup calls) (progress_of (calls_since calls)) =
      taking_is FeatureData (first_stall (calls_since calls)) (last_setup calls) (progress_of (calls_since calls)) (sym due ∙ stage-is calls) in
      let P : List EpCall → Type 0 = λ l. Behind l (state_reported changing works) in
      brings changing
      (subst P (sym (ep_calls-out defaults start before packet Answers.Ack (Offer (drop 1 packet)) offer))
      (record {
        size = t.length;
        begins = t.begins;
        taken = refl;
        command = checked_state changing setup packet (drop 1 packet) (view_after defaults start past) (ep_calls defaults start past);
        unstalled = refl;
        unconfirmed = refl;
      }))

  after_report : (start : List ℕ) (past : List Call) (setup packet : List ℕ) (image : List ℕ) (busy : Bool) (report : HostReport) (got : Result OutStep Why) → transfer_of (request_of setup) (view_after defaults start past) ≡ Ok (Takes report)
      → stage_after defaults start (SetUp setup ∷ past) ≡ Taking report → received_report report packet ≡ got → OutAnswer defaults (report_step got) image busy Answers.Ack → After start (Out packet Answers.Ack ∷ SetUp setup ∷ past)
  after_report start past setup packet image busy report (Err why) e s g a = cc
  after_report start past setup packet image busy LedsWithId (Ok got) e s g a =
      after_leds start past setup packet _ LedsWithId e (received_is LedsWithId packet got g ∙ ap report_step (sym g) ∙ ap (λ now. out_step now packet) (sym s))
  after_report start past setup packet image busy LedsAlone (Ok got) e s g a =
      after_leds start past setup packet _ LedsAlone e (received_is LedsAlone packet got g ∙ ap report_step (sym g) ∙ ap (λ now. out_step now packet) (sym s))
  after_report start past setup packet image busy FeatureData (Ok got) e s g a =
      after_offer start past setup packet s (received_is FeatureData packet got g ∙ ap report_step (sym g) ∙ ap (λ now. out_step now packet) (sym s))

  refused_read : (none : Bool) → Answers.Ack ≡ (if none then Answers.Stall WrongStage else Answers.Stall WrongStage) → ⊥
  refused_read true e = cc
  refused_read false e = cc

  after_by : (start : List ℕ) (past : List Call) (setup : List ℕ) (byte : ℕ) (rest : List ℕ) (image : List ℕ) (busy : Bool) (r : Result Transfer Why) → transfer_of (request_of setup) (view_after defaults start past) ≡ r
      → stage_after defaults start (SetUp setup ∷ past) ≡ first_stage r (request_of setup).length → OutAnswer defaults (out_step (first_stage r (request_of setup).length) (byte ∷ rest)) image busy Answers.Ack
      → After start (Out (byte ∷ rest) Answers.Ack ∷ SetUp setup ∷ past)
  after_by start past setup byte rest image busy (Err why) e s a = cc
  after_by start past setup byte rest image busy (Ok (Reads bytes)) e s a =
      absurd (refused_read ((request_of setup).length == 0) (none_due image busy ((request_of setup).length == 0) bytes (request_of setup).length byte rest Answers.Ack a))
  after_by start past setup byte rest image busy (Ok (Takes report)) e s a = after_report start past setup (byte ∷ rest) image busy report (received_report report (byte ∷ rest)) e s refl a
  after_by start past setup byte rest image busy (Ok (Sets effect)) e s a = cc

  after_data : (start : List ℕ) (past : List Call) (setup : List ℕ) (byte : ℕ) (rest : List ℕ) → IsAnswered defaults start (SetUp setup ∷ past) (Out (byte ∷ rest) Answers.Ack)
      → After start (Out (byte ∷ rest) Answers.Ack ∷ SetUp setup ∷ past)
  after_data start past setup byte rest a =
      let busy : Bool = is_some (working defaults start (SetUp setup ∷ past)) in
      let P : Stage → Type 0 = λ s. OutAnswer defaults (out_step s (byte ∷ rest)) (image_after start past) busy Answers.Ack in
      after_by start past setup byte rest (image_after start past) busy (transfer_of (request_of setup) (view_after defaults start past)) refl (stage_begun start past setup) (subst P (stage_begun start past setup) a)

  end_fails : (work : Work) (f : Fate) → work ≢ Answer_of.Failed → (f ≡ failed → ⊥) → ended_by_work defaults work f ≡ failed → ⊥
  end_fails Answer_of.Idle works w n e = cc
  end_fails Answer_of.Idle settled w n e = cc
  end_fails Answer_of.Idle failed w n e = n refl
  end_fails Answer_of.Working works w n e = cc
  end_fails Answer_of.Working settled w n e = cc
  end_fails Answer_of.Working failed w n e = n refl
  end_fails Answer_of.Settled works w n e = cc
  end_fails Answer_of.Settled settled w n e = cc
  end_fails Answer_of.Settled failed w n e = n refl
  end_fails Answer_of.Failed f w n e = w refl

  none_failed : (steps : List (Work × List ℕ)) → NoneFails (put_off steps) → fate_after defaults (put_off steps) ≡ failed → ⊥
  none_failed [] n e = cc
  none_failed (step ∷ before) n e = end_fails step.0 (fate_after defaults (put_off before)) n.0 (none_failed before n.1) e

  not_gone : (changing : Bool) (f : Fate) → (f ≡ failed → ⊥) → (if changing then f else settled) ≡ failed → ⊥
  not_gone true f n e = n e
  not_gone false f n e = cc

  -- where no step fails, data that were acknowledged are confirmed
  never_refused : (start : List ℕ) (past : List Call) (setup : List ℕ) (byte : ℕ) (rest : List ℕ) (answer : Answer) (steps : List (Work × List ℕ)) → status_of (plain answer) ≡ Refuses
      → EachCall (IsAnswered defaults) start (In answer ∷ put_off steps ++ Out (byte ∷ rest) Answers.Ack ∷ SetUp setup ∷ past) → NoneFails (put_off steps) → ⊥
  never_refused start past setup byte rest answer steps s h n =
      let base : List Call = Out (byte ∷ rest) Answers.Ack ∷ SetUp setup ∷ past in
      let here : EachCall (IsAnswered defaults) start base = EachCall-later (IsAnswered defaults) start (put_off steps) base h.1 in
      by_after steps h n (after_data start past setup byte rest here.0)
    where
      by_after : (made : List (Work × List ℕ)) → EachCall (IsAnswered defaults) start (In answer ∷ put_off made ++ Out (byte ∷ rest) Answers.Ack ∷ SetUp setup ∷ past) → NoneFails (put_off made) → After start (Out (byte ∷ rest) Answers.Ack ∷ SetUp setup ∷ past) → ⊥
      by_after [] l f (rests is) = let e = l.0 ∙ ap in_answer is in let t = subst (λ (a : Answer). status_of (plain a) ≡ Refuses) e s in cc
      by_after (step ∷ before) l f (rests is) = let w = sym is ∙ first_waited defaults start step before (Out (byte ∷ rest) Answers.Ack ∷ SetUp setup ∷ past) l.1 in cc
      by_after made l f (brings changing b) =
          not_gone changing (fate_after defaults (put_off made)) (none_failed made f)
          (failed_fate defaults changing (fate_after defaults (put_off made)) answer
          (l.0 ∙ ap in_answer (stage_behind (ep_calls defaults start (put_off made ++ Out (byte ∷ rest) Answers.Ack ∷ SetUp setup ∷ past)) (state_reported changing (fate_after defaults (put_off made))) (behind_all defaults start made (Out (byte ∷ rest) Answers.Ack ∷ SetUp setup ∷ past) changing b))) s)

  -- ---- how it ends

  -- no packet is sent for data
  no_packet : {p q r : Type 0} → (q → ⊥) → (r → ⊥) → Where p q r → ⊥
  no_packet f g (yes a b) = f b
  no_packet f g (no a b) = g b

  no_select : (a b : Bool) (packet : ArrayVec ℕ) → Answers.Packet packet ≡ (if a then (if b then Answers.Ack else Answers.Stall BadKey) else Answers.Stall BadLayer) → ⊥
  no_select true true packet e = cc
  no_select true false packet e = cc
  no_select false b packet e = cc

  no_read : (image : List ℕ) (read : Result Command KeymapError) (packet : ArrayVec ℕ) → ReadAnswer defaults image read (Answers.Packet packet) → ⊥
  no_read image (Err error) packet a = cc
  no_read image (Ok command) packet a = no_packet (λ e. (cc)) (no_packet (λ e. (cc)) (no_packet (λ e. (cc)) (λ e. (cc)))) a

  no_offer : (image : List ℕ) (busy : Bool) (bytes : List ℕ) (packet : ArrayVec ℕ) → FeatureAnswer defaults image busy bytes (Answers.Packet packet) → ⊥
  no_offer image busy bytes packet a =
      no_packet (λ e. (cc)) (no_packet (no_select (nat_lt (slice_index bytes 1) layers) (nat_lt (slice_index bytes 2) keys) packet) (no_read image (command_of_bytes bytes) packet)) a

  no_report : (image : List ℕ) (busy : Bool) (report : HostReport) (data_ : List ℕ) (got : Result OutStep Why) (packet : ArrayVec ℕ) → received_report report data_ ≡ got
      → OutAnswer defaults (report_step got) image busy (Answers.Packet packet) → ⊥
  no_report image busy report data_ (Err why) packet g a = cc
  no_report image busy LedsWithId data_ (Ok got) packet g a = let P : OutStep → Type 0 = λ x. OutAnswer defaults x image busy (Answers.Packet packet) in let e = subst P (sym (received_is LedsWithId data_ got g)) a in cc
  no_report image busy LedsAlone data_ (Ok got) packet g a = let P : OutStep → Type 0 = λ x. OutAnswer defaults x image busy (Answers.Packet packet) in let e = subst P (sym (received_is LedsAlone data_ got g)) a in cc
  no_report image busy FeatureData data_ (Ok got) packet g a =
      let P : OutStep → Type 0 = λ x. OutAnswer defaults x image busy (Answers.Packet packet) in no_offer image busy (drop 1 data_) packet (subst P (sym (received_is FeatureData data_ got g)) a)

  no_due : (none : Bool) (packet : ArrayVec ℕ) → Answers.Packet packet ≡ (if none then Answers.Stall WrongStage else Answers.Stall WrongStage) → ⊥
  no_due true packet e = cc
  no_due false packet e = cc

  no_request : (image : List ℕ) (busy : Bool) (r : Result Transfer Why) (asked byte : ℕ) (rest : List ℕ) (packet : ArrayVec ℕ) → RequestAnswer defaults image busy r asked (byte ∷ rest) (Answers.Packet packet) → ⊥
  no_request image busy (Err why) asked byte rest packet a = cc
  no_request image busy (Ok (Reads bytes)) asked byte rest packet a = no_due (asked == 0) packet a
  no_request image busy (Ok (Takes report)) asked byte rest packet a = no_report image busy report (byte ∷ rest) (received_report report (byte ∷ rest)) packet refl a
  no_request image busy (Ok (Sets effect)) asked byte rest packet a = cc

  data_checked : (start : List ℕ) (past : List Call) (setup : List ℕ) (byte : ℕ) (rest : List ℕ) (answer : Answer) → IsAnswered defaults start (SetUp setup ∷ past) (Out (byte ∷ rest) answer)
      → IsChecked defaults start past setup (byte ∷ rest) answer
  data_checked start past setup byte rest answer a = checked start past setup (byte ∷ rest) answer (data_answer start past setup byte rest answer a)

  pub put_off_checked : (start : List ℕ) (past : List Call) (setup data_ : List ℕ) (since : List Call) (healthy : Type 0) → Gives Waits data_ since → IsConforming defaults start (since ++ SetUp setup ∷ past)
      → (answer : Answer) × IsChecked defaults start past setup data_ answer × FailsBy Busy answer healthy
  put_off_checked start past setup [] since healthy g h = absurd g.0
  put_off_checked start past setup (byte ∷ rest) since healthy g h =
      let P : List Call → Type 0 = λ l. EachCall (IsAnswered defaults) start (l ++ SetUp setup ∷ past) in
      let here : EachCall (IsAnswered defaults) start (Out (byte ∷ rest) Answers.Nak ∷ SetUp setup ∷ past) = subst P g.1 h in
      (Answers.Nak, data_checked start past setup byte rest Answers.Nak here.0, tt)

  pub refused_checked : (start : List ℕ) (past : List Call) (setup data_ : List ℕ) (since : List Call) (healthy : Type 0) → Gives Refuses data_ since → IsConforming defaults start (since ++ SetUp setup ∷ past)
      → (answer : Answer) × IsChecked defaults start past setup data_ answer × FailsBy Refused answer healthy
  refused_checked start past setup [] since healthy g h = absurd g.0
  refused_checked start past setup (byte ∷ rest) since healthy g h =
      let P : List Call → Type 0 = λ l. EachCall (IsAnswered defaults) start (l ++ SetUp setup ∷ past) in
      let here : EachCall (IsAnswered defaults) start (Out (byte ∷ rest) g.1 ∷ SetUp setup ∷ past) = subst P g.3 h in
      by_answer g.1 g.2 here.0
    where
      by_answer : (answer : Answer) → data_status_of (plain answer) ≡ Refuses → IsAnswered defaults start (SetUp setup ∷ past) (Out (byte ∷ rest) answer)
          → (other : Answer) × IsChecked defaults start past setup (byte ∷ rest) other × FailsBy Refused other healthy
      by_answer Answers.Ack e a = cc
      by_answer Answers.Nak e a = cc
      by_answer (Answers.Packet packet) e a = absurd (no_request (image_after start past) (is_some (working defaults start past)) (transfer_of (request_of setup) (view_after defaults start past)) (request_of setup).length byte rest packet (data_answer start past setup byte rest (Answers.Packet packet) a))
      by_answer (Answers.Stall why) e a = (Answers.Stall why, data_checked start past setup byte rest (Answers.Stall why) a, tt)

  -- a write whose data were taken, or that has none
  none_given : (start : List ℕ) (past : List Call) (setup : List ℕ) (answer : Answer) (steps : List (Work × List ℕ)) (healthy : Type 0) → EachCall (IsAnswered defaults) start (In answer ∷ put_off steps ++ SetUp setup ∷ past)
      → status_of (plain answer) ≡ Refuses → (other : Answer) × IsChecked defaults start past setup [] other × FailsBy Refused other healthy
  none_given start past setup answer steps healthy h s =
      let r : Result Transfer Why = transfer_of (request_of setup) (view_after defaults start past) in
      let P : Answer → Type 0 = λ a. status_of (plain a) ≡ Refuses in
      let w = in_refused (image_after start past) (is_some (working defaults start past)) r (request_of setup).length (subst P (in_first start past setup answer steps h) s) in
      (Answers.Stall w.0, checked start past setup [] (Answers.Stall w.0) w.1, tt)

  none_taken : (start : List ℕ) (past : List Call) (setup : List ℕ) (steps : List (Work × List ℕ)) → EachCall (IsAnswered defaults) start (confirmation ∷ put_off steps ++ SetUp setup ∷ past)
      → IsChecked defaults start past setup [] Answers.Ack
  none_taken start past setup steps h =
      let r : Result Transfer Why = transfer_of (request_of setup) (view_after defaults start past) in
      let P : Answer → Type 0 = λ a. status_of (plain a) ≡ Done in
      checked start past setup [] Answers.Ack
      (in_done (image_after start past) (is_some (working defaults start past)) r (request_of setup).length (λ bytes e. (reads_sized defaults start past setup bytes e).0)
      (subst P (in_first start past setup (Answers.Packet (record { items = [] })) steps h) refl))

  taken_done : (start : List ℕ) (past : List Call) (setup data_ : List ℕ) (steps : List (Work × List ℕ)) → EachCall (IsAnswered defaults) start (confirmation ∷ put_off steps ++ (data_calls data_ ++ SetUp setup ∷ past))
      → IsChecked defaults start past setup data_ Answers.Ack
  taken_done start past setup [] steps h = none_taken start past setup steps h
  taken_done start past setup (byte ∷ rest) steps h =
      let here : EachCall (IsAnswered defaults) start (Out (byte ∷ rest) Answers.Ack ∷ SetUp setup ∷ past) = EachCall-later (IsAnswered defaults) start (put_off steps) (Out (byte ∷ rest) Answers.Ack ∷ SetUp setup ∷ past) h.1 in
      data_checked start past setup byte rest Answers.Ack here.0

  taken_refused : (start : List ℕ) (past : List Call) (setup data_ : List ℕ) (answer : Answer) (steps : List (Work × List ℕ)) (healthy : Type 0) → status_of (plain answer) ≡ Refuses → (healthy → NoneFails (put_off steps))
      → EachCall (IsAnswered defaults) start (In answer ∷ put_off steps ++ (data_calls data_ ++ SetUp setup ∷ past)) → (other : Answer) × IsChecked defaults start past setup data_ other × FailsBy Refused other healthy
  taken_refused start past setup [] answer steps healthy s n h = none_given start past setup answer steps healthy h s
  taken_refused start past setup (byte ∷ rest) answer steps healthy s n h =
      let here : EachCall (IsAnswered defaults) start (Out (byte ∷ rest) Answers.Ack ∷ SetUp setup ∷ past) = EachCall-later (IsAnswered defaults) start (put_off steps) (Out (byte ∷ rest) Answers.Ack ∷ SetUp setup ∷ past) h.1 in
      (Answers.Ack, data_checked start past setup byte rest Answers.Ack here.0, λ x. never_refused start past setup byte rest answer steps s h (n x))

  pub taken_checked : {U : Type 0} (start : List ℕ) (past : List Call) (setup data_ : List ℕ) (taken status : List Call) (result : Result U TransferError) (healthy : Type 0) → Gives Done data_ taken
      → IsConforming defaults start (status ++ (taken ++ SetUp setup ∷ past)) → MatchResult result (λ _. IsStatusStage status) (λ e. NotConfirmed defaults start (taken ++ SetUp setup ∷ past) e status) → (healthy → NoneFails status)
      → (answer : Answer) × IsChecked defaults start past setup data_ answer × MatchResult result (λ _. answer ≡ Answers.Ack) (λ e. FailsBy e answer healthy)
  taken_checked start past setup data_ taken status (Ok u) healthy t h m n =
      let is : status ++ (taken ++ SetUp setup ∷ past) ≡ confirmation ∷ put_off m.0 ++ (data_calls data_ ++ SetUp setup ∷ past) =
      ap (λ l. l ++ (taken ++ SetUp setup ∷ past)) m.1 ∙ ap (λ l. confirmation ∷ put_off m.0 ++ (l ++ SetUp setup ∷ past)) t in
      let P : List Call → Type 0 = λ l. EachCall (IsAnswered defaults) start l in
      (Answers.Ack, taken_done start past setup data_ m.0 (subst P is h), refl)
  taken_checked start past setup data_ taken status (Err Refused) healthy t h m n =
      let is : status ++ (taken ++ SetUp setup ∷ past) ≡ In m.0 ∷ put_off m.1 ++ (data_calls data_ ++ SetUp setup ∷ past) =
      ap (λ l. l ++ (taken ++ SetUp setup ∷ past)) m.3 ∙ ap (λ l. In m.0 ∷ put_off m.1 ++ (l ++ SetUp setup ∷ past)) t in
      let P : List Call → Type 0 = λ l. EachCall (IsAnswered defaults) start l in
      taken_refused start past setup data_ m.0 m.1 healthy m.2 (λ x. subst NoneFails m.3 (n x)) (subst P is h)
  taken_checked start past setup data_ taken status (Err Busy) healthy t h m n = absurd m
  taken_checked start past setup data_ taken status (Err Unfinished) healthy t h m n = absurd ((ended defaults start past setup data_ Unfinished taken status t h m).0)
