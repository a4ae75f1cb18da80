-- What a call does to the commands and the keymap, while it is answered as it has to be.
use Rattle.std.proofs.Common.{◌≡◌, ℕ, true, false, Bool, not, if◌then◌else◌, nat_lt, length, is_some, Option, Some, None, Result, Ok, Err, List, [], ◌∷◌, refl, ap, subst, drop}
use Rattle.std.specs.Option.{option_map}
use Rattle.std.specs.Result.{result_ok}
use Rattle.layers.specs.Codes.{DefaultCodes}
use Rattle.layers.specs.Entries.{changed}
use Rattle.layers.specs.declared.command.Command.{Command}
use Rattle.control_ep.specs.declared.answer.EpAnswer.{EpAnswer}
use Rattle.control_ep.specs.declared.answer.EpAnswer.TheVariants.{Ack, Nak, Packet, Stall}
use Rattle.control_ep.specs.declared.answer.OutStep.{OutStep}
use Rattle.control_ep.specs.declared.answer.OutStep.TheVariants.{Answered, Leds, Offer}
use Rattle.control_ep.specs.Transfers.{HostReport, LedsWithId, LedsAlone, FeatureData, Stage, Rest, Sending, Taking, Waiting, Status, Stalled}
use Rattle.control_ep.specs.Answers.{out_step, received_report, report_step, has_id}
use Rattle.control_ep.specs.declared.why.Why.{Why}
use Rattle.control_ep.specs.declared.why.Why.TheVariants.{ShortData, LongData, UnknownReport}
use Rattle.layers.specs.declared.code.KeymapError.{KeymapError}
use Rattle.keymap_store.specs.declared.store.Work.{Work as WorkAnswer}
use Rattle.keymap_store.specs.declared.store.Work.TheVariants.{Idle, Working, Settled, Failed}
use Rattle.keymap_store.specs.Keymap.{SameEntries}
use Rattle.keyboard.specs.Calls.{Call, Scanned, SetUp, Out, In, Polled, Worked, BusReset, setup_of, image_after, keymap}
use Rattle.keyboard.specs.Effects.{report_named}
use Rattle.keyboard.specs.Feature.{command_of_bytes, yes, no, FeatureAnswer}
use Rattle.keyboard.specs.Fate.{works, settled, failed, ended_by}
use Rattle.keyboard.specs.Commands.{accepts, command_in_report, working}
use Rattle.keyboard.specs.Endpoint.{stage_after}
use Rattle.keyboard.specs.Conforming.{IsAnswered, OutAnswer, WorkedOn}
use Rattle.keyboard.proofs.Accepting.{EndsNone, ended_by-idle, ended_by-working}
use Rattle.keyboard.proofs.Sent.{sent_as}
use Rattle.keyboard.proofs.Served.{Serves, serves}

-- a command is accepted by an acknowledgement, of a transfer that brings the feature report
pub record Accepts (before : List Call) (packet : List ℕ) (answer : EpAnswer) (command : Command) : Type 0 where
  pub acknowledged : answer ≡ Ack
  pub names : report_named (setup_of before) ≡ Some FeatureData
  pub reads : command_of_bytes (drop 1 packet) ≡ Ok command

read_ok : (read : Result Command KeymapError) (command : Command) → result_ok read ≡ Some command → read ≡ Ok command
read_ok (Ok c) command e = cc
read_ok (Err error) command e = cc

accepts_named : (report : Option HostReport) (packet : List ℕ) (command : Command) → command_in_report (option_map (sent_as packet) report) ≡ Some command
    → (report ≡ Some FeatureData) × (command_of_bytes (drop 1 packet) ≡ Ok command)
accepts_named None packet command e = cc
accepts_named (Some LedsWithId) packet command e = cc
accepts_named (Some LedsAlone) packet command e = cc
accepts_named (Some FeatureData) packet command e = (refl, read_ok (command_of_bytes (drop 1 packet)) command e)

pub accepted_by : (before : List Call) (packet : List ℕ) (answer : EpAnswer) (command : Command) → accepts before (Out packet answer) ≡ Some command → Accepts before packet answer command
unfolding accepts
accepted_by before packet Ack command e =
    let n : (report_named (setup_of before) ≡ Some FeatureData) × (command_of_bytes (drop 1 packet) ≡ Ok command) = accepts_named (report_named (setup_of before)) packet command e in
    record { acknowledged = refl; names = n.0; reads = n.1 }
accepted_by before packet Nak command e = cc
accepted_by before packet (Packet p) command e = cc
accepted_by before packet (Stall why) command e = cc

pub accepts-work : (before : List Call) (work : WorkAnswer) (image : List ℕ) → accepts before (Worked work image) ≡ None
unfolding accepts
accepts-work before work image = refl

module _ (defaults : DefaultCodes) where
  -- nothing is accepted or ended, and the keymap stays; a command is accepted while none works; the working command is
  -- settled, or fails
  pub data Effect (start : List ℕ) (before : List Call) (call : Call) : Type 0 where
    stays : EndsNone defaults call → accepts before call ≡ None
        → SameEntries (keymap defaults (image_after start (call ∷ before))) (keymap defaults (image_after start before)) → Effect start before call
    takes : (command : Command) → EndsNone defaults call → accepts before call ≡ Some command
        → image_after start (call ∷ before) ≡ image_after start before → (is_some (working defaults start before) ≡ true → ⊥) → Effect start before call
    settles : (command : Command) → ended_by defaults call works ≡ settled → accepts before call ≡ None
        → working defaults start before ≡ Some command → SameEntries (keymap defaults (image_after start (call ∷ before))) (changed defaults (keymap defaults (image_after start before)) (command ∷ []))
        → Effect start before call
    fails : (command : Command) → ended_by defaults call works ≡ failed → accepts before call ≡ None
        → working defaults start before ≡ Some command → SameEntries (keymap defaults (image_after start (call ∷ before))) (keymap defaults (image_after start before)) → Effect start before call

  same : (image : List ℕ) → SameEntries (keymap defaults image) (keymap defaults image)
  same image layer key l k = refl

  pub ends_none_out : (packet : List ℕ) (answer : EpAnswer) → EndsNone defaults (Out packet answer)
  ends_none_out packet answer = record { keeps = λ f. refl }

  -- an acknowledged packet of a feature report was offered, and no command works
  free_to_accept : (image : List ℕ) (busy : Bool) (bytes : List ℕ) → FeatureAnswer defaults image busy bytes Ack → busy ≡ true → ⊥
  free_to_accept image busy bytes (yes b a) e = cc
  free_to_accept image busy bytes (no n a) e = n e

  received_free : (image : List ℕ) (busy : Bool) (packet : List ℕ) (r : Result OutStep Why) → received_report FeatureData packet ≡ r → OutAnswer defaults (report_step r) image busy Ack → busy ≡ true → ⊥
  received_free image busy packet (Err why) e a b = cc
  received_free image busy packet (Ok (Answered answer)) e a b = never (nat_lt (length packet) 6) (nat_lt 6 (length packet)) (has_id (Some 3) packet) e
    where
      never : (s l i : Bool) → (if s then Err ShortData else (if l then Err LongData else (if not i then Err UnknownReport else Ok (Offer (drop 1 packet))))) ≡ Ok (Answered answer) → ⊥
      never true l i e = cc
      never false true i e = cc
      never false false true e = cc
      never false false false e = cc
  received_free image busy packet (Ok (Leds leds)) e a b = never (nat_lt (length packet) 6) (nat_lt 6 (length packet)) (has_id (Some 3) packet) e
    where
      never : (s l i : Bool) → (if s then Err ShortData else (if l then Err LongData else (if not i then Err UnknownReport else Ok (Offer (drop 1 packet))))) ≡ Ok (Leds leds) → ⊥
      never true l i e = cc
      never false true i e = cc
      never false false true e = cc
      never false false false e = cc
  received_free image busy packet (Ok (Offer bytes)) e a b = free_to_accept image busy bytes a b

  out_free : (start : List ℕ) (before : List Call) (packet : List ℕ) (now : Stage) → Serves (setup_of before) now → report_named (setup_of before) ≡ Some FeatureData
      → OutAnswer defaults (out_step now packet) (image_after start before) (is_some (working defaults start before)) Ack → is_some (working defaults start before) ≡ true → ⊥
  out_free start before packet Rest s n a b = cc
  out_free start before packet (Sending bytes asked sent) s n a b = (let none : report_named (setup_of before) ≡ None = s.0 in cc)
  out_free start before packet (Taking LedsWithId) s n a b = (let led : report_named (setup_of before) ≡ Some LedsWithId = s.0 in cc)
  out_free start before packet (Taking LedsAlone) s n a b = (let led : report_named (setup_of before) ≡ Some LedsAlone = s.0 in cc)
  out_free start before packet (Taking FeatureData) s n a b = received_free (image_after start before) (is_some (working defaults start before)) packet (received_report FeatureData packet) refl a b
  out_free start before packet Waiting s n a b = cc
  out_free start before packet (Status effect) s n a b = cc
  out_free start before packet (Stalled why) s n a b = cc

  accepting : (start : List ℕ) (before : List Call) (packet : List ℕ) (answer : EpAnswer) (o : Option Command) → accepts before (Out packet answer) ≡ o
      → IsAnswered defaults start before (Out packet answer) → Effect start before (Out packet answer)
  accepting start before packet answer None e a = stays (ends_none_out packet answer) e (same (image_after start before))
  accepting start before packet answer (Some command) e a =
      let by : Accepts before packet answer command = accepted_by before packet answer command e in
      takes command (ends_none_out packet answer) e refl
      (out_free start before packet (stage_after defaults start before) (serves defaults start before) by.names
      (subst (λ (x : EpAnswer). OutAnswer defaults (out_step (stage_after defaults start before) packet) (image_after start before) (is_some (working defaults start before)) x) by.acknowledged a))

  worked : (start : List ℕ) (before : List Call) (work : WorkAnswer) (image : List ℕ) (w : Option Command) → working defaults start before ≡ w → WorkedOn defaults start before w work image
      → Effect start before (Worked work image)
  worked start before work image None w (idle, same_image) =
      stays (record { keeps = λ f. rw idle (ended_by-idle defaults image f) }) (accepts-work before work image) (λ layer key l k. ap (λ (i : List ℕ). keymap defaults i layer key) same_image)
  worked start before Settled image (Some command) w h = settles command refl (accepts-work before Settled image) w h.outcome.entries
  worked start before Working image (Some command) w h = stays (record { keeps = ended_by-working defaults image }) (accepts-work before Working image) h.outcome
  worked start before Failed image (Some command) w h = fails command refl (accepts-work before Failed image) w h.outcome
  worked start before Idle image (Some command) w h = absurd h.outcome

  pub effect : (start : List ℕ) (before : List Call) (call : Call) → IsAnswered defaults start before call → Effect start before call
  unfolding accepts
  effect start before (Scanned scan) a = stays (record { keeps = λ f. refl }) refl (same (image_after start before))
  effect start before (SetUp bytes) a = stays (record { keeps = λ f. refl }) refl (same (image_after start before))
  effect start before (Out packet answer) a = accepting start before packet answer (accepts before (Out packet answer)) refl a
  effect start before (In answer) a = stays (record { keeps = λ f. refl }) refl (same (image_after start before))
  effect start before (Polled answer) a = stays (record { keeps = λ f. refl }) refl (same (image_after start before))
  effect start before (Worked work image) a = worked start before work image (working defaults start before) refl a
  effect start before BusReset a = stays (record { keeps = λ f. refl }) refl (same (image_after start before))
