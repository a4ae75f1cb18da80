-- A command that has nothing in its way is served.
use Rattle.std.proofs.Common.{◌≡◌, ◌≢◌, ℕ, suc, ◌<◌, ◌==◌, Bool, true, false, nat_lt, if◌then◌else◌, is_some, Option, Some, None, Result, Ok, Err, List, [], ◌∷◌, ◌++◌, drop, length, slice_index, refl, ap, sym, ◌∙◌, subst, arith}
use Rattle.std.specs.List.{list_any}
use Rattle.std.specs.Option.{option_map}
use Rattle.std.specs.Result.{result_ok}
use Rattle.std.proofs.lemmas.Bool.Decides.{nat_tests}
use Rattle.layers.specs.Codes.{DefaultCodes}
use Rattle.layers.specs.declared.code.KeymapError.{KeymapError}
use Rattle.layers.specs.declared.command.Command.{Command}
use Rattle.reports.specs.declared.Protocol.{Protocol}
use Rattle.reports.specs.declared.Protocol.TheVariants.{Boot, Report}
use Rattle.page_turnover.specs.Usable.{IsUsable}
use Rattle.control_ep.specs.declared.why.Why.{Why}
use Rattle.control_ep.specs.declared.why.Why.TheVariants.{UnknownReport}
use Rattle.control_ep.specs.declared.answer.DeviceView.{DeviceView}
use Rattle.control_ep.specs.declared.answer.EpAnswer.{EpAnswer}
use Rattle.control_ep.specs.declared.answer.EpAnswer.TheVariants.{Ack, Nak, Packet}
use Rattle.control_ep.specs.declared.answer.OutStep.{OutStep}
use Rattle.control_ep.specs.declared.answer.OutStep.TheVariants.{Offer}
use Rattle.control_ep.specs.Answers.{out_step, received_report, report_step}
use Rattle.control_ep.specs.Calls.{EpCall}
use Rattle.control_ep.specs.Requests.{request_of, named, reports_taken, transfer_of, with_length}
use Rattle.control_ep.specs.Stage.{Begins, calls_since, last_setup, first_stall, acknowledges, outcome_of, stage}
use Rattle.control_ep.specs.Transfers.{Transfer, Takes, FeatureData, Stage, Taking}
use Rattle.control_ep.proofs.Clean.{received_is}
use Rattle.control_ep.proofs.Stages.{stage-is}
use Rattle.keymap_store.specs.declared.store.Work.{Work as WorkAnswer}
use Rattle.keymap_store.specs.declared.store.Work.TheVariants.{Idle, Working, Settled, Failed}
use Rattle.keymap_store.specs.Submits.{IsWorn}
use Rattle.keyboard.specs.Calls.{Call, Scanned, SetUp, Out, In, Polled, Worked, BusReset, setup_of, image_after, keymap, EachCall}
use Rattle.keyboard.specs.Commands.{accepts, command_in_report, working, working_of}
use Rattle.keyboard.specs.Effects.{report_named}
use Rattle.keyboard.specs.Endpoint.{ep_calls, stage_after, view_after, with_out}
use Rattle.keyboard.specs.Feature.{command_of_bytes, yes, no, CommandAnswer, ReadAnswer, FeatureAnswer}
use Rattle.keyboard.specs.Conforming.{IsAnswered, OutAnswer}
use Rattle.keyboard.specs.Progress.{set_feature, IsReady, AreWhole, steps_for, steps_in, StaysDue, StaysOpen, AllWork, EndSettled, IsServed}
use Rattle.keyboard.specs.Single.{NoneFails}
use Rattle.keyboard.proofs.Accepting.{accepted-same}
use Rattle.keyboard.proofs.Sent.{sent_as}
use Rattle.keyboard.proofs.Serving.{answered_by, status_by}
use Rattle.keyboard.proofs.Telling.{EachCall-later}

-- ---- the SETUP packet

abbrev ok_of : Transfer → Result Transfer Why
ok_of transfer = Ok transfer

taken : (protocol : Protocol) → named UnknownReport (reports_taken protocol) 0x0303 ≡ ok_of (Takes FeatureData)
taken Report = refl
taken Boot = refl

begins : (view : DeviceView) → transfer_of (request_of set_feature) view ≡ ok_of (Takes FeatureData)
unfolding transfer_of
begins view = ap (λ (asked : Result Transfer Why). with_length asked 6) (taken view.protocol)

accepts_setup : (past : List Call) (bytes : List ℕ) → accepts past (SetUp bytes) ≡ None
unfolding accepts
accepts_setup past bytes = refl

no_operation : (b c d e : ℕ) (command : Command) → command_of_bytes (0 ∷ b ∷ c ∷ d ∷ e ∷ []) ≡ Ok command → ⊥
no_operation b c d e command r = cc

operation_is : (a b c d e : ℕ) (command : Command) → command_of_bytes (a ∷ b ∷ c ∷ d ∷ e ∷ []) ≡ Ok command → a ≡ 0 → ⊥
operation_is a b c d e command r z = no_operation b c d e command (rw z at r)

not_busy : (w : Option Command) → w ≡ None → is_some w ≡ true → ⊥
not_busy w n b = cc

-- the packet of a feature report
abbrev pub packet : ℕ → ℕ → ℕ → ℕ → ℕ → List ℕ
packet a b c d e = 3 ∷ a ∷ b ∷ c ∷ d ∷ e ∷ []

accepts_due : (past : List Call) (a b c d e : ℕ) (command : Command) → setup_of past ≡ Some set_feature → command_of_bytes (a ∷ b ∷ c ∷ d ∷ e ∷ []) ≡ Ok command → accepts past (Out (packet a b c d e) Ack) ≡ Some command
unfolding accepts report_named
accepts_due past a b c d e command s r = ap (λ (setup : Option (List ℕ)). command_in_report (option_map (sent_as (packet a b c d e)) (report_named setup))) s ∙ ap result_ok r

pub accepts_data : (past : List Call) (a b c d e : ℕ) (command : Command) → command_of_bytes (a ∷ b ∷ c ∷ d ∷ e ∷ []) ≡ Ok command → accepts (SetUp set_feature ∷ past) (Out (packet a b c d e) Ack) ≡ Some command
accepts_data past a b c d e command r = accepts_due (SetUp set_feature ∷ past) a b c d e command refl r

setup_between : (past between : List Call) → StaysDue between → setup_of (between ++ SetUp set_feature ∷ past) ≡ Some set_feature
setup_between past [] d = refl
setup_between past (Scanned scan ∷ between) d = setup_between past between d
setup_between past (SetUp bytes ∷ between) d = absurd d
setup_between past (Out bytes answer ∷ between) d = setup_between past between d.1
setup_between past (In answer ∷ between) d = absurd d
setup_between past (Polled answer ∷ between) d = setup_between past between d
setup_between past (Worked work image ∷ between) d = setup_between past between d
setup_between past (BusReset ∷ between) d = absurd d

-- ---- a feature report is due

record IsAwaited (calls : List EpCall) : Type 0 where
  unstalled : first_stall (calls_since calls) ≡ None
  begun : last_setup calls ≡ Begins (Takes FeatureData) 6
  untaken : list_any acknowledges (calls_since calls) ≡ false

awaited_stage : (calls : List EpCall) → IsAwaited calls → stage calls ≡ Taking FeatureData
awaited_stage calls d = stage-is calls ∙ rw (d.unstalled, d.begun, d.untaken) refl

-- ---- steps of the flash work and nothing between them

record Alone (steps : List Call) : Type 0 where
  none_fails : NoneFails steps
  stays_open : StaysOpen steps
  count : steps_in steps ≡ length steps

alone : (steps : List Call) → AreWhole steps → Alone steps
alone [] w = record { none_fails = tt; stays_open = tt; count = refl }
alone (Worked work image ∷ steps) w = (let more = alone steps w.1 in record { none_fails = (w.0, more.none_fails); stays_open = more.stays_open; count = ap suc more.count })
alone (Scanned scan ∷ steps) w = absurd w
alone (SetUp bytes ∷ steps) w = absurd w
alone (Out bytes answer ∷ steps) w = absurd w
alone (In answer ∷ steps) w = absurd w
alone (Polled answer ∷ steps) w = absurd w
alone (BusReset ∷ steps) w = absurd w

-- a step more
more_work : (work : WorkAnswer) (made needed : ℕ) → suc made < needed → work ≡ (if suc made == needed then Settled else Working) → work ≡ Working
more_work work made needed l e = (let b : (suc made == needed) ≡ false = grind (arith, l, nat_tests) in rw b at e)

last_work : (work : WorkAnswer) (made needed : ℕ) → suc made ≡ needed → work ≡ (if suc made == needed then Settled else Working) → work ≡ Settled
last_work work made needed l e = (let b : (suc made == needed) ≡ true = grind (arith, l, nat_tests) in rw b at e)

last_status : (answer : EpAnswer) (made needed : ℕ) → made ≡ needed → answer ≡ (if nat_lt made needed then Nak else Packet (record { items = [] })) → answer ≡ Packet (record { items = [] })
last_status answer made needed l e = (let b : nat_lt made needed ≡ false = grind (arith, l, nat_tests) in rw b at e)

module _ (defaults : DefaultCodes) where
  awaited_setup : (start : List ℕ) (past : List Call) → IsAwaited (ep_calls defaults start (SetUp set_feature ∷ past))
  unfolding ep_calls
  awaited_setup start past = record { unstalled = refl; begun = ap (λ (r : Result Transfer Why). outcome_of r 6) (begins (view_after defaults start past)); untaken = refl }

  nak_offered : (image : List ℕ) (busy : Bool) (bytes : List ℕ) (r : Result OutStep Why) → received_report FeatureData bytes ≡ r → OutAnswer defaults (report_step r) image busy Nak → report_step r ≡ Offer (drop 1 bytes)
  nak_offered image busy bytes (Err why) e a = cc
  nak_offered image busy bytes (Ok got) e a = sym (received_is FeatureData bytes got e)

  awaited_offer : (step : OutStep) (bytes offered : List ℕ) (entries : ℕ → ℕ → ℕ) (calls : List EpCall) → step ≡ Offer offered → IsAwaited calls → IsAwaited (with_out defaults step bytes entries Nak calls)
  awaited_offer step bytes offered entries calls e d =
      subst (λ (x : OutStep). IsAwaited (with_out defaults x bytes entries Nak calls)) (sym e) (record { unstalled = rw d.unstalled refl; begun = d.begun; untaken = d.untaken })

  -- an OUT packet that was answered NAK leaves it due
  awaited_out : (start : List ℕ) (past : List Call) (bytes : List ℕ) (answer : EpAnswer) → answer ≡ Nak → IsAnswered defaults start past (Out bytes answer) → IsAwaited (ep_calls defaults start past)
      → IsAwaited (ep_calls defaults start (Out bytes answer ∷ past))
  unfolding ep_calls
  awaited_out start past bytes answer n a d =
      let calls : List EpCall = ep_calls defaults start past in
      let image : List ℕ = image_after start past in
      let busy : Bool = is_some (working defaults start past) in
      let now : stage calls ≡ Taking FeatureData = awaited_stage calls d in
      let naked : OutAnswer defaults (out_step (stage calls) bytes) image busy Nak = subst (λ (x : EpAnswer). OutAnswer defaults (out_step (stage calls) bytes) image busy x) n a in
      let offered : report_step (received_report FeatureData bytes) ≡ Offer (drop 1 bytes) =
      nak_offered image busy bytes (received_report FeatureData bytes) refl (subst (λ (s : Stage). OutAnswer defaults (out_step s bytes) image busy Nak) now naked) in
      subst (λ (x : EpAnswer). IsAwaited (with_out defaults (out_step (stage calls) bytes) bytes (keymap defaults image) x calls)) (sym n)
      (awaited_offer (out_step (stage calls) bytes) bytes (drop 1 bytes) (keymap defaults image) calls (ap (λ (s : Stage). out_step s bytes) now ∙ offered) d)

  awaited_work : (start : List ℕ) (past : List Call) (work : WorkAnswer) (new : List ℕ) → IsAwaited (ep_calls defaults start past) → IsAwaited (ep_calls defaults start (Worked work new ∷ past))
  unfolding ep_calls
  awaited_work start past Idle new d = d
  awaited_work start past Working new d = d
  awaited_work start past Settled new d = record { unstalled = rw d.unstalled refl; begun = d.begun; untaken = d.untaken }
  awaited_work start past Failed new d = record { unstalled = rw d.unstalled refl; begun = d.begun; untaken = d.untaken }

  awaited : (start : List ℕ) (past between : List Call) → StaysDue between → EachCall (IsAnswered defaults) start (between ++ SetUp set_feature ∷ past) → IsAwaited (ep_calls defaults start (between ++ SetUp set_feature ∷ past))
  unfolding ep_calls
  awaited start past [] d h = awaited_setup start past
  awaited start past (Scanned scan ∷ between) d h = awaited start past between d h.1
  awaited start past (SetUp bytes ∷ between) d h = absurd d
  awaited start past (Out bytes answer ∷ between) d h = awaited_out start (between ++ SetUp set_feature ∷ past) bytes answer d.0 h.0 (awaited start past between d.1 h.1)
  awaited start past (In answer ∷ between) d h = absurd d
  awaited start past (Polled answer ∷ between) d h = awaited start past between d h.1
  awaited start past (Worked work image ∷ between) d h = awaited_work start (between ++ SetUp set_feature ∷ past) work image (awaited start past between d h.1)
  awaited start past (BusReset ∷ between) d h = absurd d

  -- ---- the packet of data

  to_command : (image : List ℕ) (command : Command) (given : EpAnswer) → IsUsable image → (IsWorn image → ⊥) → CommandAnswer defaults image command given → given ≡ Ack
  to_command image command given u w (yes unsound answer) = absurd (unsound u)
  to_command image command given u w (no sound (yes nothing answer)) = answer
  to_command image command given u w (no sound (no some (yes worn answer))) = absurd (w worn)
  to_command image command given u w (no sound (no some (no place answer))) = answer

  to_read : (image : List ℕ) (read : Result Command KeymapError) (command : Command) (given : EpAnswer) → read ≡ Ok command → IsUsable image → (IsWorn image → ⊥) → ReadAnswer defaults image read given → given ≡ Ack
  to_read image (Ok other) command given r u w a = to_command image other given u w a
  to_read image (Err error) command given r u w a = cc

  to_feature : (image bytes : List ℕ) (busy : Bool) (command : Command) (given : EpAnswer) → (busy ≡ true → ⊥) → (slice_index bytes 0 ≡ 0 → ⊥) → command_of_bytes bytes ≡ Ok command → IsUsable image → (IsWorn image → ⊥)
      → FeatureAnswer defaults image busy bytes given → given ≡ Ack
  to_feature image bytes busy command given f z r u w (yes b answer) = absurd (f b)
  to_feature image bytes busy command given f z r u w (no b (yes zero answer)) = absurd (z zero)
  to_feature image bytes busy command given f z r u w (no b (no some answer)) = to_read image (command_of_bytes bytes) command given r u w answer

  data_taken : (start : List ℕ) (past : List Call) (a b c d e : ℕ) (command : Command) (given : EpAnswer) → IsReady defaults start past → command_of_bytes (a ∷ b ∷ c ∷ d ∷ e ∷ []) ≡ Ok command → stage_after defaults start past ≡ Taking FeatureData
      → IsAnswered defaults start past (Out (packet a b c d e) given) → given ≡ Ack
  data_taken start past a b c d e command given ready r due answered =
      let offered : OutAnswer defaults (out_step (Taking FeatureData) (packet a b c d e)) (image_after start past) (is_some (working defaults start past)) given =
      subst (λ (s : Stage). OutAnswer defaults (out_step s (packet a b c d e)) (image_after start past) (is_some (working defaults start past)) given) due answered in
      to_feature (image_after start past) (a ∷ b ∷ c ∷ d ∷ e ∷ []) (is_some (working defaults start past)) command given
      (not_busy (working defaults start past) ready.rests) (operation_is a b c d e command r) r ready.sound ready.not_worn offered

  -- where nothing is in its way it is acknowledged
  pub acknowledged : (start : List ℕ) (past between : List Call) (a b c d e : ℕ) (given : EpAnswer) (command : Command) → StaysDue between → IsReady defaults start (between ++ SetUp set_feature ∷ past)
      → command_of_bytes (a ∷ b ∷ c ∷ d ∷ e ∷ []) ≡ Ok command → EachCall (IsAnswered defaults) start (Out (packet a b c d e) given ∷ between ++ SetUp set_feature ∷ past)
      → (given ≡ Ack) × (accepts (between ++ SetUp set_feature ∷ past) (Out (packet a b c d e) given) ≡ Some command)
  acknowledged start past between a b c d e given command due ready r h =
      let before : List Call = between ++ SetUp set_feature ∷ past in
      let took : given ≡ Ack = data_taken start before a b c d e command given ready r (awaited_stage (ep_calls defaults start before) (awaited start past between due h.1)) h.0 in
      (took, subst (λ (x : EpAnswer). accepts before (Out (packet a b c d e) x) ≡ Some command) (sym took) (accepts_due before a b c d e command (setup_between past between due) r))

  -- ---- all of it, with nothing between

  working_setup : (start : List ℕ) (past : List Call) (bytes : List ℕ) → working defaults start (SetUp bytes ∷ past) ≡ working defaults start past
  unfolding working
  working_setup start past bytes = ap working_of (accepted-same defaults start (SetUp bytes) past (record { keeps = λ f. refl }) (accepts_setup past bytes))

  all_work : (start : List ℕ) (past steps : List Call) (data_ : Call) (command : Command) → AreWhole steps → EachCall (IsAnswered defaults) start (steps ++ data_ ∷ past) → accepts past data_ ≡ Some command
      → length steps < steps_for defaults (image_after start past) command → AllWork steps
  all_work start past [] data_ command w h t l = tt
  all_work start past (Worked work new ∷ steps) data_ command w h t l =
      let count : steps_in steps ≡ length steps = (alone steps w.1).count in
      let now = answered_by defaults start past steps data_ command work new h t (w.0, (alone steps w.1).none_fails) (omega (arith, count, l)) in
      (more_work work (steps_in steps) (steps_for defaults (image_after start past) command) (omega (arith, count, l)) now, all_work start past steps data_ command w.1 h.1 t (omega (arith, l)))
  all_work start past (Scanned scan ∷ steps) data_ command w h t l = absurd w
  all_work start past (SetUp bytes ∷ steps) data_ command w h t l = absurd w
  all_work start past (Out bytes answer ∷ steps) data_ command w h t l = absurd w
  all_work start past (In answer ∷ steps) data_ command w h t l = absurd w
  all_work start past (Polled answer ∷ steps) data_ command w h t l = absurd w
  all_work start past (BusReset ∷ steps) data_ command w h t l = absurd w

  end_settled : (start : List ℕ) (past steps : List Call) (data_ : Call) (command : Command) → AreWhole steps → EachCall (IsAnswered defaults) start (steps ++ data_ ∷ past) → accepts past data_ ≡ Some command
      → length steps ≡ steps_for defaults (image_after start past) command → EndSettled steps
  end_settled start past [] data_ command w h t l = tt
  end_settled start past (Worked work new ∷ steps) data_ command w h t l =
      let count : steps_in steps ≡ length steps = (alone steps w.1).count in
      let now = answered_by defaults start past steps data_ command work new h t (w.0, (alone steps w.1).none_fails) (omega (arith, count, l)) in
      (last_work work (steps_in steps) (steps_for defaults (image_after start past) command) (omega (arith, count, l)) now, all_work start past steps data_ command w.1 h.1 t (omega (arith, l)))
  end_settled start past (Scanned scan ∷ steps) data_ command w h t l = absurd w
  end_settled start past (SetUp bytes ∷ steps) data_ command w h t l = absurd w
  end_settled start past (Out bytes answer ∷ steps) data_ command w h t l = absurd w
  end_settled start past (In answer ∷ steps) data_ command w h t l = absurd w
  end_settled start past (Polled answer ∷ steps) data_ command w h t l = absurd w
  end_settled start past (BusReset ∷ steps) data_ command w h t l = absurd w

  pub served : (start : List ℕ) (past steps : List Call) (a b c d e : ℕ) (given status : EpAnswer) (command : Command) → IsReady defaults start past → command_of_bytes (a ∷ b ∷ c ∷ d ∷ e ∷ []) ≡ Ok command → AreWhole steps
      → length steps ≡ steps_for defaults (image_after start past) command → EachCall (IsAnswered defaults) start (In status ∷ steps ++ Out (3 ∷ a ∷ b ∷ c ∷ d ∷ e ∷ []) given ∷ SetUp set_feature ∷ past) → IsServed given steps status
  served start past steps a b c d e given status command ready r whole all h =
      let before : List Call = SetUp set_feature ∷ past in
      let data_ : Call = Out (packet a b c d e) given in
      let there : IsReady defaults start before = record { sound = ready.sound; not_worn = ready.not_worn; rests = working_setup start past set_feature ∙ ready.rests } in
      let took = acknowledged start past [] a b c d e given command tt there r (EachCall-later (IsAnswered defaults) start steps (data_ ∷ before) h.1) in
      let only = alone steps whole in
      record {
        acknowledged = took.0;
        stored = end_settled start before steps data_ command whole h.1 took.1 all;
        confirmed = last_status status (steps_in steps) (steps_for defaults (image_after start past) command) (only.count ∙ all) (status_by defaults start before steps data_ status command h took.1 only.none_fails only.stays_open);
      }
