-- A keyboard stands for one call more.
use Rattle.std.proofs.Common.{◌≡◌, ℕ, ◌%◌, ◌^◌, is_some, not, nat_lt, length, slice_index, drop, if◌then◌else◌, unwrap_or, Bool, true, false, Option, Some, None, Result, Ok, Err, List, [], ◌∷◌, refl, ap, sym, ◌∙◌, subst}
use Rattle.std.specs.Option.{option_map}
use Rattle.layers.specs.Codes.{DefaultCodes}
use Rattle.layers.specs.declared.command.Command.{Command}
use Rattle.debounce.specs.declared.Scan.{Scan}
use Rattle.reports.specs.declared.Protocol.{Protocol}
use Rattle.reports.specs.declared.Protocol.TheVariants.{Report}
use Rattle.reports.specs.Calls.{polled, was_reset}
use Rattle.key_reports.specs.Calls.{Scanned as KeysScanned, Asked}
use Rattle.key_reports.specs.Past.{answer_after}
use Rattle.key_reports.specs.Tables.{table}
use Rattle.key_reports.specs.representation.Value.{KeysValue}
use Rattle.key_reports.specs.representation.Relation as key_reports
use Rattle.control_ep.specs.declared.why.Why.{Why}
use Rattle.control_ep.specs.declared.why.Why.TheVariants.{ShortData, LongData, UnknownReport}
use Rattle.control_ep.specs.declared.answer.EpAnswer.{EpAnswer}
use Rattle.control_ep.specs.declared.answer.EpAnswer.TheVariants.{Ack, Nak, Packet, Stall}
use Rattle.control_ep.specs.declared.answer.OutStep.{OutStep}
use Rattle.control_ep.specs.declared.answer.OutStep.TheVariants.{Answered, Leds, Offer}
use Rattle.control_ep.specs.declared.answer.Effect.{Effect}
use Rattle.control_ep.specs.declared.answer.Effect.TheVariants.{Nothing}
use Rattle.control_ep.specs.declared.answer.DeviceView.{DeviceView}
use Rattle.control_ep.specs.Transfers.{HostReport, LedsWithId, LedsAlone, FeatureData, Stage, Rest, Sending, Taking, Waiting, Status, Stalled}
use Rattle.control_ep.specs.Calls.{EpCall, Setup, Out as EpOut, In as EpIn, Reset}
use Rattle.control_ep.specs.Packets.{packet_at}
use Rattle.control_ep.specs.Stage.{is_empty_packet}
use Rattle.control_ep.specs.Answers.{out_step, in_answer, in_effect, packet_or_stall, received_report, report_step, closing_step, has_id}
use Rattle.control_ep.specs.representation.Relation as control_ep
use Rattle.keymap_store.specs.Value.{StoreValue}
use Rattle.keymap_store.specs.Store.{working as working_in}
use Rattle.keyboard.specs.Calls.{Call, Scanned, SetUp, Out, In, Polled, BusReset, setup_of, image_after, keymap}
use Rattle.keyboard.specs.Effects.{Entry, report_named, report_taken, leds_in, leds_after, entry_in_report, selected, effect_asked, effect_reported, protocol_then, protocol_after}
use Rattle.keyboard.proofs.Sent.{sent_as}
use Rattle.keyboard.specs.Keys.{with_effect, key_calls}
use Rattle.keyboard.specs.Commands.{accepts, command_in_report, working, working_of}
use Rattle.keyboard.specs.Endpoint.{view_after, with_out, ep_calls, stage_after}
use Rattle.keyboard.specs.Bounded.{counted, steps_since, accepted_image}
use Rattle.keyboard.specs.Conforming.{IsAnswered, OutAnswer}
use Rattle.keyboard.specs.representation.Value.{KeyboardValue}
use Rattle.keyboard.specs.representation.Relation.{Refines}
use Rattle.keyboard.proofs.Accepting.{EndsNone, accepted-same}
use Rattle.keyboard.proofs.Bounding.{steps_since-same, accepted_image-same}
use Rattle.keyboard.proofs.Served.{Serves, serves}
use Rattle.keyboard.proofs.Effects.{ends_none_out}

-- the empty packet brings about what its SETUP packet asked for, and nothing in a read
if_same : (b : Bool) (effect : Effect) → effect ≡ Nothing → (if b then effect else Nothing) ≡ Nothing
if_same true effect e = e
if_same false effect e = refl

sent_reported : (before : List Call) (packet : Option (List ℕ)) → effect_asked (setup_of before) ≡ Nothing → effect_reported before (packet_or_stall packet) ≡ Nothing
sent_reported before None e = refl
sent_reported before (Some packet) e = if_same (is_empty_packet (packet_or_stall (Some packet))) (effect_asked (setup_of before)) e

reported_by : (before : List Call) (now : Stage) → Serves (setup_of before) now → effect_reported before (in_answer now) ≡ in_effect now
reported_by before Rest s = refl
reported_by before (Sending bytes asked sent) s = sent_reported before (packet_at bytes asked sent) s.1
reported_by before (Taking report) s = refl
reported_by before Waiting s = refl
reported_by before (Status effect) s = s
reported_by before (Stalled why) s = refl

-- a report that was taken leaves everything where none was
pub record TakesNothing (past : List Call) (packet : List ℕ) (answer : EpAnswer) : Type 0 where
  pub leds : leds_in (report_taken past (Out packet answer)) ≡ None
  pub entry : entry_in_report (report_taken past (Out packet answer)) ≡ None
  pub command : command_in_report (report_taken past (Out packet answer)) ≡ None

pub takes_nothing : (past : List Call) (packet : List ℕ) (answer : EpAnswer) → report_taken past (Out packet answer) ≡ None → TakesNothing past packet answer
takes_nothing past packet answer e = record { leds = ap leds_in e; entry = ap entry_in_report e; command = ap command_in_report e }

-- an OUT packet whose answer is known but for its verdict, in each stage
abbrev pub ReceivedAs : HostReport → List ℕ → OutStep → Type 0
ReceivedAs report packet (Answered answer) = ⊥
ReceivedAs LedsWithId packet (Leds leds) = leds ≡ slice_index packet 1 % 2 ^ 5
ReceivedAs LedsAlone packet (Leds leds) = leds ≡ slice_index packet 0 % 2 ^ 5
ReceivedAs FeatureData packet (Leds leds) = ⊥
ReceivedAs LedsWithId packet (Offer bytes) = ⊥
ReceivedAs LedsAlone packet (Offer bytes) = ⊥
ReceivedAs FeatureData packet (Offer bytes) = bytes ≡ drop 1 packet

abbrev step_of : Result OutStep Why → OutStep → Type 0
step_of r step = r ≡ Ok step

checked_step : (s l i : Bool) (found step : OutStep) → step_of (if s then Err ShortData else (if l then Err LongData else (if i then Err UnknownReport else Ok found))) step → found ≡ step
checked_step true l i found step e = cc
checked_step false true i found step e = cc
checked_step false false true found step e = cc
checked_step false false false found step e = cc

pub received_as : (report : HostReport) (packet : List ℕ) (step : OutStep) → received_report report packet ≡ Ok step → ReceivedAs report packet step
received_as LedsWithId packet step e =
    subst (λ (s : OutStep). ReceivedAs LedsWithId packet s) (checked_step (nat_lt (length packet) 2) (nat_lt 2 (length packet)) (not (has_id (Some 1) packet)) (Leds (slice_index packet 1 % 2 ^ 5)) step e) refl
received_as LedsAlone packet step e =
    subst (λ (s : OutStep). ReceivedAs LedsAlone packet s) (checked_step (nat_lt (length packet) 1) (nat_lt 1 (length packet)) (not (has_id None packet)) (Leds (slice_index packet 0 % 2 ^ 5)) step e) refl
received_as FeatureData packet step e =
    subst (λ (s : OutStep). ReceivedAs FeatureData packet s) (checked_step (nat_lt (length packet) 6) (nat_lt 6 (length packet)) (not (has_id (Some 3) packet)) (Offer (drop 1 packet)) step e) refl

-- an OUT packet that is answered by the endpoint itself takes no report
closing_takes : (past : List Call) (packet : List ℕ) (answer : EpAnswer) → report_named (setup_of past) ≡ None → report_taken past (Out packet answer) ≡ None
closing_takes past packet Ack n = ap (option_map (sent_as packet)) n
closing_takes past packet Nak n = refl
closing_takes past packet (Packet p) n = refl
closing_takes past packet (Stall why) n = refl

answered_in_taking : (past : List Call) (report : HostReport) (packet : List ℕ) (answer : EpAnswer) (r : Result OutStep Why) → received_report report packet ≡ r → Answered answer ≡ report_step r
    → report_taken past (Out packet answer) ≡ None
answered_in_taking past report packet answer (Err why) e a = (let is : answer ≡ Stall why = cc in rw is refl)
answered_in_taking past report packet answer (Ok step) e a = absurd (subst (λ (s : OutStep). ReceivedAs report packet s) (sym a) (received_as report packet step e))

stalled_takes : (past : List Call) (packet : List ℕ) (answer : EpAnswer) (why : Why) → Answered answer ≡ Answered (Stall why) → report_taken past (Out packet answer) ≡ None
stalled_takes past packet answer why a = (let is : answer ≡ Stall why = cc in rw is refl)

answered_takes : (past : List Call) (packet : List ℕ) (answer : EpAnswer) (now : Stage) → Serves (setup_of past) now → Answered answer ≡ out_step now packet → report_taken past (Out packet answer) ≡ None
answered_takes past packet answer Rest s a = stalled_takes past packet answer _ a
answered_takes past packet answer (Sending bytes asked sent) s a = closing_takes past packet answer s.0
answered_takes past packet answer (Taking report) s a = answered_in_taking past report packet answer (received_report report packet) refl a
answered_takes past packet answer Waiting s a = stalled_takes past packet answer _ a
answered_takes past packet answer (Status effect) s a = stalled_takes past packet answer _ a
answered_takes past packet answer (Stalled why) s a = stalled_takes past packet answer why a

pub protocol-out : (past : List Call) (packet : List ℕ) (answer : EpAnswer) → protocol_after (Out packet answer ∷ past) ≡ protocol_after past
unfolding protocol_after
protocol-out past packet answer = refl

pub leds-out : (past : List Call) (packet : List ℕ) (answer : EpAnswer) (o : Option ℕ) → leds_in (report_taken past (Out packet answer)) ≡ o → leds_after (Out packet answer ∷ past) ≡ unwrap_or o (leds_after past)
unfolding leds_after
leds-out past packet answer o e = ap (λ (x : Option ℕ). unwrap_or x (leds_after past)) e

pub selected-out : (past : List Call) (packet : List ℕ) (answer : EpAnswer) (o : Option Entry) → entry_in_report (report_taken past (Out packet answer)) ≡ o → selected (Out packet answer ∷ past) ≡ unwrap_or o (selected past)
unfolding selected
selected-out past packet answer o e = ap (λ (x : Option Entry). unwrap_or x (selected past)) e

pub accepts-out : (past : List Call) (packet : List ℕ) (answer : EpAnswer) (o : Option Command) → command_in_report (report_taken past (Out packet answer)) ≡ o → accepts past (Out packet answer) ≡ o
unfolding accepts
accepts-out past packet answer o e = e

-- an output report
pub record LedsTaken (past : List Call) (packet : List ℕ) (leds : ℕ) : Type 0 where
  pub leds_is : leds_in (report_taken past (Out packet Ack)) ≡ Some leds
  pub entry : entry_in_report (report_taken past (Out packet Ack)) ≡ None
  pub command : command_in_report (report_taken past (Out packet Ack)) ≡ None

leds_by : (past : List Call) (report : HostReport) (packet : List ℕ) (leds : ℕ) → report_named (setup_of past) ≡ Some report → ReceivedAs report packet (Leds leds) → LedsTaken past packet leds
leds_by past LedsWithId packet leds n r = record { leds_is = rw (n, r) refl; entry = rw n refl; command = rw n refl }
leds_by past LedsAlone packet leds n r = record { leds_is = rw (n, r) refl; entry = rw n refl; command = rw n refl }
leds_by past FeatureData packet leds n r = absurd r

leds_in_taking : (past : List Call) (report : HostReport) (packet : List ℕ) (leds : ℕ) (r : Result OutStep Why) → report_named (setup_of past) ≡ Some report → received_report report packet ≡ r → Leds leds ≡ report_step r
    → LedsTaken past packet leds
leds_in_taking past report packet leds (Err why) n e a = cc
leds_in_taking past report packet leds (Ok step) n e a = leds_by past report packet leds n (subst (λ (s : OutStep). ReceivedAs report packet s) (sym a) (received_as report packet step e))

not_closing : (packet : List ℕ) (leds : ℕ) → Leds leds ≡ closing_step packet → ⊥
not_closing [] leds a = cc
not_closing (b ∷ bs) leds a = cc

leds_taken : (past : List Call) (packet : List ℕ) (leds : ℕ) (now : Stage) → Serves (setup_of past) now → Leds leds ≡ out_step now packet → LedsTaken past packet leds
leds_taken past packet leds Rest s a = cc
leds_taken past packet leds (Sending bytes asked sent) s a = absurd (not_closing packet leds a)
leds_taken past packet leds (Taking report) s a = leds_in_taking past report packet leds (received_report report packet) s.0 refl a
leds_taken past packet leds Waiting s a = cc
leds_taken past packet leds (Status effect) s a = cc
leds_taken past packet leds (Stalled why) s a = cc

module _ (defaults : DefaultCodes) where
  -- a call that neither accepts nor ends a command, and leaves the flash
  pub record Leaves_commands (start : List ℕ) (past : List Call) (call : Call) : Type 0 where
    pub ends_none : EndsNone defaults call
    pub accepts_none : accepts past call ≡ None
    pub same_image : image_after start (call ∷ past) ≡ image_after start past
    pub no_work : (count : ℕ) → counted call count ≡ count

  working-same : (start : List ℕ) (past : List Call) (call : Call) → Leaves_commands start past call → working defaults start (call ∷ past) ≡ working defaults start past
  unfolding working
  working-same start past call l = ap working_of (accepted-same defaults start call past l.ends_none l.accepts_none)

  -- what a call leaves beside the commands
  pub record PartsAfter (start : List ℕ) (past : List Call) (new : KeyboardValue) : Type 0 where
    pub ep : control_ep.Refines (ep_calls defaults start past) new.ep
    pub keys : key_reports.Refines (key_calls defaults start past) new.keys
    pub protocol : new.protocol ≡ protocol_after past
    pub leds : new.leds ≡ leds_after past
    pub layer : new.layer ≡ (selected past).layer
    pub key : new.key ≡ (selected past).key

  pub refines_with : (start : List ℕ) (past : List Call) (call : Call) (old new : KeyboardValue) → Refines defaults start past old → Leaves_commands start past call → new.store ≡ old.store
      → PartsAfter start (call ∷ past) new → IsAnswered defaults start past call → Refines defaults start (call ∷ past) new
  refines_with start past call old new h l s p a =
      let count : steps_since (call ∷ past) ≡ steps_since past = steps_since-same call past l.no_work l.accepts_none in
      let accepted_at : accepted_image start (call ∷ past) ≡ accepted_image start past = accepted_image-same start call past l.accepts_none in
      record {
        now = record {
          ep = p.ep;
          keys = p.keys;
          store = rw (l.same_image, s) h.now.store;
          works = ap (λ (x : StoreValue). working_in x.job) s ∙ h.now.works ∙ sym (working-same start past call l);
          protocol = p.protocol;
          leds = p.leds;
          layer = p.layer;
          key = p.key;
          few = λ w. rw (l.same_image, s, count) (h.now.few (rw s at w));
          needs = λ w. rw (accepted_at, l.same_image, s, count) (h.now.needs (rw s at w));
          order = λ command w. rw (accepted_at, l.same_image, s, count) (h.now.order command (rw s at w));
        };
        answered = (a, h.answered);
      }

  -- a scan
  pub refines_scan : (start : List ℕ) (past : List Call) (scan : Scan) (keys : KeysValue) (old : KeyboardValue) → Refines defaults start past old
      → key_reports.Refines (KeysScanned scan (table (keymap defaults (image_after start past))) old.protocol ∷ key_calls defaults start past) keys
      → Refines defaults start (Scanned scan ∷ past) (record old { keys = keys })
  unfolding ep_calls key_calls leds_after selected protocol_after accepts
  refines_scan start past scan keys old h k =
      refines_with start past (Scanned scan) old (record old { keys = keys }) h
      (record { ends_none = record { keeps = λ f. refl }; accepts_none = refl; same_image = refl; no_work = λ count. refl }) refl
      (record {
        ep = h.now.ep;
        keys = subst (λ (p : Protocol). key_reports.Refines (KeysScanned scan (table (keymap defaults (image_after start past))) p ∷ key_calls defaults start past) keys) h.now.protocol k;
        protocol = h.now.protocol;
        leds = h.now.leds;
        layer = h.now.layer;
        key = h.now.key;
      })
      tt

  -- a poll
  pub refines_polled : (start : List ℕ) (past : List Call) (answer : Option (List ℕ)) (keys : KeysValue) (old : KeyboardValue) → Refines defaults start past old
      → answer ≡ answer_after old.protocol (key_calls defaults start past) → key_reports.Refines (Asked (polled old.protocol answer) ∷ key_calls defaults start past) keys
      → Refines defaults start (Polled answer ∷ past) (record old { keys = keys })
  unfolding ep_calls key_calls leds_after selected protocol_after accepts
  refines_polled start past answer keys old h a k =
      refines_with start past (Polled answer) old (record old { keys = keys }) h
      (record { ends_none = record { keeps = λ f. refl }; accepts_none = refl; same_image = refl; no_work = λ count. refl }) refl
      (record {
        ep = h.now.ep;
        keys = subst (λ (p : Protocol). key_reports.Refines (Asked (polled p answer) ∷ key_calls defaults start past) keys) h.now.protocol k;
        protocol = h.now.protocol;
        leds = h.now.leds;
        layer = h.now.layer;
        key = h.now.key;
      })
      (a ∙ ap (λ (p : Protocol). answer_after p (key_calls defaults start past)) h.now.protocol)

  -- a SETUP packet
  pub refines_setup : (start : List ℕ) (past : List Call) (packet : List ℕ) (view : DeviceView) (ep : Stage) (old : KeyboardValue) → Refines defaults start past old
      → view ≡ view_after defaults start past → control_ep.Refines (Setup packet view ∷ ep_calls defaults start past) ep
      → Refines defaults start (SetUp packet ∷ past) (record old { ep = ep })
  unfolding ep_calls key_calls leds_after selected protocol_after accepts
  refines_setup start past packet view ep old h v e =
      refines_with start past (SetUp packet) old (record old { ep = ep }) h
      (record { ends_none = record { keeps = λ f. refl }; accepts_none = refl; same_image = refl; no_work = λ count. refl }) refl
      (record {
        ep = subst (λ (x : DeviceView). control_ep.Refines (Setup packet x ∷ ep_calls defaults start past) ep) v e;
        keys = h.now.keys;
        protocol = h.now.protocol;
        leds = h.now.leds;
        layer = h.now.layer;
        key = h.now.key;
      })
      tt

  -- a bus reset
  pub refines_reset : (start : List ℕ) (past : List Call) (ep : Stage) (keys : KeysValue) (old : KeyboardValue) → Refines defaults start past old
      → control_ep.Refines (Reset ∷ ep_calls defaults start past) ep → key_reports.Refines (Asked was_reset ∷ key_calls defaults start past) keys
      → Refines defaults start (BusReset ∷ past) (record old { ep = ep; keys = keys; protocol = Report; leds = 0 })
  unfolding ep_calls key_calls leds_after selected protocol_after accepts
  refines_reset start past ep keys old h e k =
      refines_with start past BusReset old (record old { ep = ep; keys = keys; protocol = Report; leds = 0 }) h
      (record { ends_none = record { keeps = λ f. refl }; accepts_none = refl; same_image = refl; no_work = λ count. refl }) refl
      (record { ep = e; keys = k; protocol = refl; leds = refl; layer = h.now.layer; key = h.now.key })
      tt

  -- an IN packet
  pub refines_in : (start : List ℕ) (past : List Call) (answer : EpAnswer) (effect : Effect) (ep : Stage) (keys : KeysValue) (protocol : Protocol) (old : KeyboardValue) → Refines defaults start past old
      → answer ≡ in_answer (stage_after defaults start past) → effect ≡ in_effect (stage_after defaults start past)
      → control_ep.Refines (EpIn answer effect ∷ ep_calls defaults start past) ep → key_reports.Refines (with_effect effect (key_calls defaults start past)) keys
      → protocol ≡ protocol_then effect old.protocol
      → Refines defaults start (In answer ∷ past) (record old { ep = ep; keys = keys; protocol = protocol })
  unfolding ep_calls key_calls leds_after selected protocol_after accepts
  refines_in start past answer effect ep keys protocol old h a f e k p =
      let reported : effect ≡ effect_reported past answer = f ∙ sym (reported_by past (stage_after defaults start past) (serves defaults start past)) ∙ ap (λ (x : EpAnswer). effect_reported past x) (sym a) in
      refines_with start past (In answer) old (record old { ep = ep; keys = keys; protocol = protocol }) h
      (record { ends_none = record { keeps = λ f. refl }; accepts_none = refl; same_image = refl; no_work = λ count. refl }) refl
      (record {
        ep = subst (λ (x : Effect). control_ep.Refines (EpIn answer x ∷ ep_calls defaults start past) ep) reported e;
        keys = subst (λ (x : Effect). key_reports.Refines (with_effect x (key_calls defaults start past)) keys) reported k;
        protocol = p ∙ ap (λ (x : Effect). protocol_then x old.protocol) reported ∙ ap (λ (x : Protocol). protocol_then (effect_reported past answer) x) h.now.protocol;
        leds = h.now.leds;
        layer = h.now.layer;
        key = h.now.key;
      })
      a

  -- the endpoint's calls after an OUT packet
  pub ep_calls-out : (start : List ℕ) (past : List Call) (packet : List ℕ) (answer : EpAnswer) (step : OutStep) → step ≡ out_step (stage_after defaults start past) packet
      → ep_calls defaults start (Out packet answer ∷ past) ≡ with_out defaults step packet (keymap defaults (image_after start past)) answer (ep_calls defaults start past)
  unfolding ep_calls
  ep_calls-out start past packet answer step e = ap (λ (s : OutStep). with_out defaults s packet (keymap defaults (image_after start past)) answer (ep_calls defaults start past)) (sym e)

  -- what an OUT packet leaves beside the endpoint, by the report that it took
  pub keys-out : (start : List ℕ) (past : List Call) (packet : List ℕ) (answer : EpAnswer) → key_calls defaults start (Out packet answer ∷ past) ≡ key_calls defaults start past
  unfolding key_calls
  keys-out start past packet answer = refl

  pub out_leaves : (start : List ℕ) (past : List Call) (packet : List ℕ) (answer : EpAnswer) → command_in_report (report_taken past (Out packet answer)) ≡ None → Leaves_commands start past (Out packet answer)
  out_leaves start past packet answer e = record { ends_none = ends_none_out defaults packet answer; accepts_none = accepts-out past packet answer None e; same_image = refl; no_work = λ count. refl }

  -- an OUT packet that takes nothing
  pub refines_untaken : (start : List ℕ) (past : List Call) (packet : List ℕ) (answer : EpAnswer) (ep : Stage) (old new : KeyboardValue) → Refines defaults start past old → TakesNothing past packet answer
      → new ≡ record old { ep = ep } → control_ep.Refines (ep_calls defaults start (Out packet answer ∷ past)) ep → IsAnswered defaults start past (Out packet answer)
      → Refines defaults start (Out packet answer ∷ past) new
  refines_untaken start past packet answer ep old new h t n e a =
      subst (λ (x : KeyboardValue). Refines defaults start (Out packet answer ∷ past) x) (sym n)
      (refines_with start past (Out packet answer) old (record old { ep = ep }) h (out_leaves start past packet answer t.command) refl
      (record {
        ep = e;
        keys = rw (keys-out start past packet answer) h.now.keys;
        protocol = h.now.protocol ∙ sym (protocol-out past packet answer);
        leds = h.now.leds ∙ sym (leds-out past packet answer None t.leds);
        layer = h.now.layer ∙ ap (λ (x : Entry). x.layer) (sym (selected-out past packet answer None t.entry));
        key = h.now.key ∙ ap (λ (x : Entry). x.key) (sym (selected-out past packet answer None t.entry));
      })
      a)

  -- an OUT packet that the endpoint answers
  pub refines_answered : (start : List ℕ) (past : List Call) (packet : List ℕ) (answer : EpAnswer) (ep : Stage) (old : KeyboardValue) → Refines defaults start past old
      → Answered answer ≡ out_step (stage_after defaults start past) packet → control_ep.Refines (EpOut packet (Answered answer) ∷ ep_calls defaults start past) ep
      → Refines defaults start (Out packet answer ∷ past) (record old { ep = ep })
  refines_answered start past packet answer ep old h s e =
      refines_untaken start past packet answer ep old (record old { ep = ep }) h
      (takes_nothing past packet answer (answered_takes past packet answer (stage_after defaults start past) (serves defaults start past) s)) refl
      (subst (λ (calls : List EpCall). control_ep.Refines calls ep) (sym (ep_calls-out start past packet answer (Answered answer) s)) e)
      (subst (λ (x : OutStep). OutAnswer defaults x (image_after start past) (is_some (working defaults start past)) answer) s refl)

  pub refines_leds : (start : List ℕ) (past : List Call) (packet : List ℕ) (leds : ℕ) (ep : Stage) (old : KeyboardValue) → Refines defaults start past old
      → Leds leds ≡ out_step (stage_after defaults start past) packet → control_ep.Refines (EpOut packet (Leds leds) ∷ ep_calls defaults start past) ep
      → Refines defaults start (Out packet Ack ∷ past) (record old { ep = ep; leds = leds })
  refines_leds start past packet leds ep old h s e =
      let t : LedsTaken past packet leds = leds_taken past packet leds (stage_after defaults start past) (serves defaults start past) s in
      refines_with start past (Out packet Ack) old (record old { ep = ep; leds = leds }) h (out_leaves start past packet Ack t.command) refl
      (record {
        ep = subst (λ (calls : List EpCall). control_ep.Refines calls ep) (sym (ep_calls-out start past packet Ack (Leds leds) s)) e;
        keys = rw (keys-out start past packet Ack) h.now.keys;
        protocol = h.now.protocol ∙ sym (protocol-out past packet Ack);
        leds = sym (leds-out past packet Ack (Some leds) t.leds_is);
        layer = h.now.layer ∙ ap (λ (x : Entry). x.layer) (sym (selected-out past packet Ack None t.entry));
        key = h.now.key ∙ ap (λ (x : Entry). x.key) (sym (selected-out past packet Ack None t.entry));
      })
      (subst (λ (x : OutStep). OutAnswer defaults x (image_after start past) (is_some (working defaults start past)) Ack) s refl)
