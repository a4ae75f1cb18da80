-- A feature report that was offered: its verdict, and the keyboard after it.
use Rattle.std.proofs.Common.{◌≡◌, ℕ, ◌+◌, ◌<◌, ◌≤◌, ◌==◌, ◌^◌, IsSome, is_some, slice_index, drop, if◌then◌else◌, Bool, true, false, Option, Some, None, Result, Ok, Err, List, [], ◌∷◌, refl, ap, sym, ◌∙◌, subst, arith, inl, inr}
use Rattle.std.specs.Option.{option_map}
use Rattle.std.specs.Result.{result_ok}
use Rattle.std.proofs.lemmas.List.{get_or-drop}
use Rattle.std.proofs.lemmas.Bool.Decides.{nat_tests}
use Rattle.layers.specs.Codes.{DefaultCodes}
use Rattle.layers.specs.Entries.{ChangesSome, ChangesNothing}
use Rattle.layers.specs.declared.code.KeymapError.{KeymapError}
use Rattle.layers.specs.declared.command.Command.{Command}
use Rattle.page_turnover.specs.Usable.{IsUsable}
use Rattle.page_turnover.specs.Turn.{next_seq}
use Rattle.keymap_store.specs.declared.store.Taken.{Taken}
use Rattle.keymap_store.specs.declared.store.Taken.TheVariants as Takens
use Rattle.keymap_store.specs.declared.store.SubmitRefusal.{SubmitRefusal}
use Rattle.keymap_store.specs.declared.store.SubmitRefusal.TheVariants as Refusals
use Rattle.keymap_store.specs.Submits.{IsWorn, HasPlace, Submits}
use Rattle.keymap_store.specs.Store.{working as working_in}
use Rattle.keymap_store.specs.Left.{left, Needs}
use Rattle.keymap_store.specs.Operations.{operations_of}
use Rattle.keymap_store.specs.representation.Rest.{rest_of}
use Rattle.keymap_store.specs.Value.{StoreValue}
use Rattle.key_reports.specs.representation.Value.{KeysValue}
use Rattle.key_reports.specs.representation.Relation as key_reports
use Rattle.control_ep.specs.declared.why.Why.{Why}
use Rattle.control_ep.specs.declared.why.Why.TheVariants.{Unsound, Worn}
use Rattle.control_ep.specs.declared.answer.EpAnswer.{EpAnswer}
use Rattle.control_ep.specs.declared.answer.EpAnswer.TheVariants.{Ack, Nak, Packet, Stall}
use Rattle.control_ep.specs.declared.answer.OutStep.{OutStep}
use Rattle.control_ep.specs.declared.answer.OutStep.TheVariants.{Offer}
use Rattle.control_ep.specs.declared.answer.Verdict.{Verdict}
use Rattle.control_ep.specs.declared.answer.Verdict.TheVariants.{Done, Working, Refused}
use Rattle.control_ep.specs.Transfers.{HostReport, LedsWithId, LedsAlone, FeatureData, Stage, Rest, Sending, Taking, Waiting, Status, Stalled}
use Rattle.control_ep.specs.Calls.{EpCall, Out as EpOut, Checked}
use Rattle.control_ep.specs.Answers.{out_step, received_report, report_step, closing_step, checked_answer, verdict_answer}
use Rattle.control_ep.specs.representation.Relation as control_ep
use Rattle.keyboard.specs.Calls.{Call, Out, setup_of, image_after, keymap}
use Rattle.keyboard.specs.Effects.{Entry, SentReport, report_named, report_taken, leds_in, entry_in_report, selected}
use Rattle.keyboard.proofs.Sent.{sent_as}
use Rattle.keyboard.specs.Keys.{key_calls}
use Rattle.keyboard.specs.Feature.{command_of_bytes, yes, no, CommandAnswer, ReadAnswer, FeatureAnswer}
use Rattle.keyboard.specs.Fate.{changes, changes_by}
use Rattle.keyboard.specs.Commands.{accepts, command_in_report, working}
use Rattle.keyboard.specs.Endpoint.{verdict_reported, ep_calls, stage_after}
use Rattle.keyboard.specs.Bounded.{most_steps, steps_since}
use Rattle.keyboard.specs.Conforming.{IsAnswered, OutAnswer}
use Rattle.keyboard.specs.representation.Value.{KeyboardValue, RunsOn, at_work}
use Rattle.keyboard.specs.representation.Relation.{Refines}
use Rattle.keyboard.specs.representation.Private.{VerdictLeaves, refused, selects, commands, Checks, verdict_of}
use Rattle.keyboard.proofs.Changing.{changes-some, changes-nothing}
use Rattle.keyboard.proofs.Bounding.{steps_since-none, accepted_image-now, nothing_needed, none_works}
use Rattle.keyboard.proofs.Served.{Serves, serves}
use Rattle.keyboard.proofs.Effects.{ends_none_out}
use Rattle.keyboard.proofs.Sessions.{orderly, AfterTaken, now_works, changed_nothing, after_takes, working_after}
use Rattle.keyboard.proofs.Standing.{ReceivedAs, received_as, takes_nothing, refines_with, refines_untaken, out_leaves, ep_calls-out, keys-out, protocol-out, leds-out, selected-out, accepts-out}

-- a report of operation 0 brings no command
no_command : (bytes : List ℕ) (command : Command) → command_of_bytes bytes ≡ Ok command → slice_index bytes 0 ≡ 0 → ⊥
no_command bytes command e z = (let f = rw z at e in cc)

none_read : (bytes : List ℕ) → slice_index bytes 0 ≡ 0 → result_ok (command_of_bytes bytes) ≡ None
none_read bytes z = rw z refl

pub free : (w : Option Command) → w ≡ None → is_some w ≡ true → ⊥
free w n b = cc

-- a flash with room for a record, or for a compaction that makes it, is not worn
not_worn : (image : List ℕ) → HasPlace image → IsWorn image → ⊥
unfolding next_seq
not_worn image (inl room) w = w.full room
not_worn image (inr (full, can)) w = (let low : next_seq image < 2 ^ 28 = can.numbered in let is : next_seq image ≡ 2 ^ 28 = rw w.last refl in absurd (omega arith))

kept_by : (old new : KeyboardValue) → new ≡ record old { store = new.store } → new.store ≡ old.store → new ≡ old
kept_by old new o s = o ∙ ap (λ (x : StoreValue). record old { store = x }) s

not_busy : (w : Option Command) → w ≡ None → IsSome w → ⊥
not_busy w n s = cc

-- only a feature report that is due is offered
pub record Offered (past : List Call) (packet bytes : List ℕ) : Type 0 where
  pub names : report_named (setup_of past) ≡ Some FeatureData
  pub bytes_are : bytes ≡ drop 1 packet

offered_by : (past : List Call) (report : HostReport) (packet bytes : List ℕ) → report_named (setup_of past) ≡ Some report → ReceivedAs report packet (Offer bytes) → Offered past packet bytes
offered_by past LedsWithId packet bytes n r = absurd r
offered_by past LedsAlone packet bytes n r = absurd r
offered_by past FeatureData packet bytes n r = record { names = n; bytes_are = r }

offered_in_taking : (past : List Call) (report : HostReport) (packet bytes : List ℕ) (r : Result OutStep Why) → report_named (setup_of past) ≡ Some report → received_report report packet ≡ r → Offer bytes ≡ report_step r
    → Offered past packet bytes
offered_in_taking past report packet bytes (Err why) n e a = cc
offered_in_taking past report packet bytes (Ok step) n e a = offered_by past report packet bytes n (subst (λ (s : OutStep). ReceivedAs report packet s) (sym a) (received_as report packet step e))

not_closing : (packet bytes : List ℕ) → Offer bytes ≡ closing_step packet → ⊥
not_closing [] bytes a = cc
not_closing (b ∷ bs) bytes a = cc

offered : (past : List Call) (packet bytes : List ℕ) (now : Stage) → Serves (setup_of past) now → Offer bytes ≡ out_step now packet → Offered past packet bytes
offered past packet bytes Rest s a = cc
offered past packet bytes (Sending data_ asked sent) s a = absurd (not_closing packet bytes a)
offered past packet bytes (Taking report) s a = offered_in_taking past report packet bytes (received_report report packet) s.0 refl a
offered past packet bytes Waiting s a = cc
offered past packet bytes (Status effect) s a = cc
offered past packet bytes (Stalled why) s a = cc

unacked : (past : List Call) (packet : List ℕ) (answer : EpAnswer) → (answer ≡ Ack → ⊥) → report_taken past (Out packet answer) ≡ None
unacked past packet Ack n = absurd (n refl)
unacked past packet Nak n = refl
unacked past packet (Packet p) n = refl
unacked past packet (Stall why) n = refl

feature_taken : (past : List Call) (packet : List ℕ) → report_named (setup_of past) ≡ Some FeatureData → report_taken past (Out packet Ack) ≡ Some (record { report = FeatureData; bytes = packet })
feature_taken past packet n = ap (option_map (sent_as packet)) n

entry_when : (packet : List ℕ) (sent : Option SentReport) → sent ≡ Some (record { report = FeatureData; bytes = packet }) → slice_index packet 1 ≡ 0
    → entry_in_report sent ≡ Some (record { layer = slice_index packet 2; key = slice_index packet 3 })
entry_when packet sent e z = rw (e, z) refl

no_entry_when : (packet : List ℕ) (sent : Option SentReport) → sent ≡ Some (record { report = FeatureData; bytes = packet }) → (slice_index packet 1 ≡ 0 → ⊥) → entry_in_report sent ≡ None
no_entry_when packet sent e z = (let b : (slice_index packet 1 == 0) ≡ false = grind (arith, z, nat_tests) in rw (e, b) refl)

no_leds_when : (packet : List ℕ) (sent : Option SentReport) → sent ≡ Some (record { report = FeatureData; bytes = packet }) → leds_in sent ≡ None
no_leds_when packet sent e = rw e refl

command_when : (packet : List ℕ) (sent : Option SentReport) (o : Option Command) → sent ≡ Some (record { report = FeatureData; bytes = packet }) → result_ok (command_of_bytes (drop 1 packet)) ≡ o → command_in_report sent ≡ o
command_when packet sent o e c = rw e c

-- the numbers after the ID
number_at : (packet bytes : List ℕ) (i : ℕ) → bytes ≡ drop 1 packet → slice_index bytes i ≡ slice_index packet (1 + i)
number_at packet bytes i e = rw (e, get_or-drop 1 packet i 0) refl

only_command : (works : Bool) (w : Option Command) (command other : Command) → w ≡ (if works then Some command else None) → w ≡ Some other → other ≡ command
only_command true w command other e f = cc
only_command false w command other e f = cc

plus_none : (n : ℕ) → n ≡ n + 0
plus_none n = omega arith

pub reported_answer : (now : Stage) (verdict : Verdict) (answer : EpAnswer) → answer ≡ verdict_answer now verdict → now ≡ Taking FeatureData → answer ≡ checked_answer verdict
reported_answer now verdict answer a e = a ∙ ap (λ (s : Stage). verdict_answer s verdict) e

module _ (defaults : DefaultCodes) where
  -- the verdict on a command while none works
  checked_with : (image bytes : List ℕ) (command : Command) (verdict : Verdict) (old new : KeyboardValue) → at_work old ≡ None → command_of_bytes bytes ≡ Ok command
      → CommandAnswer defaults image command (checked_answer verdict) → verdict ≡ verdict_reported (changes defaults (keymap defaults image) command) (checked_answer verdict)
      → RunsOn defaults image new → VerdictLeaves defaults image bytes verdict old new → Checks defaults image bytes verdict old new
  checked_with image bytes command verdict old new n c a t r l = record {
    answer_is = no (free (at_work old) n) (no (no_command bytes command c) (subst (λ (x : Result Command KeymapError). ReadAnswer defaults image x (checked_answer verdict)) (sym c) a));
    reported = t ∙ ap (λ (x : Result Command KeymapError). verdict_reported (changes_by defaults (keymap defaults image) x) (checked_answer verdict)) (sym c);
    runs_on = r;
    leaves = l;
  }

  some_and_nothing : (entries : ℕ → ℕ → ℕ) (command : Command) → ChangesSome defaults entries command → ChangesNothing defaults entries command → ⊥
  some_and_nothing entries command s n = s.differs (n.each s.layer s.key s.in_layers s.in_keys)

  pub checked_settled : (image bytes : List ℕ) (command : Command) (old new : KeyboardValue) → at_work old ≡ None → command_of_bytes bytes ≡ Ok command
      → IsUsable image → ChangesNothing defaults (keymap defaults image) command → RunsOn defaults image new → new ≡ record old { store = new.store } → at_work new ≡ None → left defaults image new.store ≤ most_steps
      → Checks defaults image bytes Done old new
  checked_settled image bytes command old new n c u s r o w m =
      let nothing : changes defaults (keymap defaults image) command ≡ false = changes-nothing defaults (keymap defaults image) command s in
      checked_with image bytes command Done old new n c (no (λ v. v u) (yes s refl)) (rw nothing refl) r
      (commands command c refl n o (rw nothing w) m (λ x. nothing_needed (at_work new) (Needs defaults image (left defaults image new.store)) w x) (λ x. none_works (at_work new) command (rest_of defaults image new.store ≡ operations_of defaults image command) w x))

  pub checked_working : (image bytes : List ℕ) (command : Command) (old new : KeyboardValue) → at_work old ≡ None → command_of_bytes bytes ≡ Ok command
      → IsUsable image → ChangesSome defaults (keymap defaults image) command → HasPlace image → RunsOn defaults image new → new ≡ record old { store = new.store } → at_work new ≡ Some command → left defaults image new.store ≤ most_steps
      → Needs defaults image (left defaults image new.store) → rest_of defaults image new.store ≡ operations_of defaults image command → Checks defaults image bytes Working old new
  checked_working image bytes command old new n c u s p r o w m k i =
      let something : changes defaults (keymap defaults image) command ≡ true = changes-some defaults (keymap defaults image) command s in
      checked_with image bytes command Working old new n c (no (λ v. v u) (no (some_and_nothing (keymap defaults image) command s) (no (not_worn image p) refl))) (rw something refl) r
      (commands command c refl n o (rw something w) m (λ x. k) (λ x. i))

  pub checked_unsound : (image bytes : List ℕ) (command : Command) (old new : KeyboardValue) → at_work old ≡ None → command_of_bytes bytes ≡ Ok command
      → (IsUsable image → ⊥) → RunsOn defaults image new → new ≡ old → Checks defaults image bytes (Refused Unsound) old new
  checked_unsound image bytes command old new n c u r o = checked_with image bytes command (Refused Unsound) old new n c (yes u refl) refl r (refused (λ e. cc) o)

  pub checked_worn : (image bytes : List ℕ) (command : Command) (old new : KeyboardValue) → at_work old ≡ None → command_of_bytes bytes ≡ Ok command
      → IsUsable image → ChangesSome defaults (keymap defaults image) command → IsWorn image → RunsOn defaults image new → new ≡ old → Checks defaults image bytes (Refused Worn) old new
  checked_worn image bytes command old new n c u s w r o =
      checked_with image bytes command (Refused Worn) old new n c (no (λ v. v u) (no (some_and_nothing (keymap defaults image) command s) (yes w refl))) refl r (refused (λ e. cc) o)

  -- what the store makes of a command
  pub record Submitted (image : List ℕ) (command : Command) (taken : Result Taken SubmitRefusal) (old new : KeyboardValue) : Type 0 where
    pub submits : Submits defaults image old.store.job command taken
    pub runs_on : RunsOn defaults image new
    pub only : new ≡ record old { store = new.store }
    pub taken_is : taken ≡ Ok Takens.Working → at_work new ≡ Some command
    pub unchanged : (taken ≡ Ok Takens.Working → ⊥) → new.store ≡ old.store
    pub needs : taken ≡ Ok Takens.Working → Needs defaults image (left defaults image new.store)
    pub few : left defaults image new.store ≤ most_steps
    pub operations : taken ≡ Ok Takens.Working → rest_of defaults image new.store ≡ operations_of defaults image command

  pub checked_submitted : (image bytes : List ℕ) (command : Command) (taken : Result Taken SubmitRefusal) (old new : KeyboardValue) → at_work old ≡ None → command_of_bytes bytes ≡ Ok command
      → Submitted image command taken old new → Checks defaults image bytes (verdict_of taken) old new
  checked_submitted image bytes command (Ok Takens.Settled) old new n c s =
      checked_settled image bytes command old new n c s.submits.0.usable s.submits.1 s.runs_on s.only (ap (λ (x : StoreValue). working_in x.job) (s.unchanged (λ e. cc)) ∙ n) s.few
  checked_submitted image bytes command (Ok Takens.Working) old new n c s =
      checked_working image bytes command old new n c s.submits.0.usable s.submits.1 s.submits.2 s.runs_on s.only (s.taken_is refl) s.few (s.needs refl) (s.operations refl)
  checked_submitted image bytes command (Err Refusals.Busy) old new n c s = absurd (not_busy (at_work old) n s.submits)
  checked_submitted image bytes command (Err Refusals.Unsound) old new n c s =
      checked_unsound image bytes command old new n c s.submits.1 s.runs_on (kept_by old new s.only (s.unchanged (λ e. cc)))
  checked_submitted image bytes command (Err Refusals.Worn) old new n c s =
      checked_worn image bytes command old new n c s.submits.0.usable s.submits.1 s.submits.2 s.runs_on (kept_by old new s.only (s.unchanged (λ e. cc)))

  -- the verdict leaves the endpoint to be told of it
  pub same_ep : (image bytes : List ℕ) (verdict : Verdict) (old new : KeyboardValue) → VerdictLeaves defaults image bytes verdict old new → new.ep ≡ old.ep
  same_ep image bytes verdict old new (refused n o) = ap (λ (k : KeyboardValue). k.ep) o
  same_ep image bytes verdict old new (selects z a o) = ap (λ (k : KeyboardValue). k.ep) o
  same_ep image bytes verdict old new (commands command c a n o w m k i) = ap (λ (k : KeyboardValue). k.ep) o

  -- what an offer and its verdict come to
  pub record OfferChecked (start : List ℕ) (past : List Call) (packet bytes : List ℕ) (verdict : Verdict) (old mid new : KeyboardValue) (ep : Stage) : Type 0 where
    pub refines : Refines defaults start past old
    pub step : Offer bytes ≡ out_step (stage_after defaults start past) packet
    pub between : mid ≡ record old { ep = mid.ep }
    pub checks : Checks defaults (image_after start past) bytes verdict mid new
    pub ep_is : control_ep.Refines (Checked verdict (checked_answer verdict) ∷ EpOut packet (Offer bytes) ∷ ep_calls defaults start past) ep

  works_mid : (start : List ℕ) (past : List Call) (packet bytes : List ℕ) (verdict : Verdict) (old mid new : KeyboardValue) (ep : Stage) → OfferChecked start past packet bytes verdict old mid new ep → at_work mid ≡ working defaults start past
  works_mid start past packet bytes verdict old mid new ep j = ap (λ (k : KeyboardValue). at_work k) j.between ∙ j.refines.now.works

  checked_is : (start : List ℕ) (past : List Call) (packet bytes : List ℕ) (verdict : Verdict) (old mid new : KeyboardValue) (ep : Stage) → OfferChecked start past packet bytes verdict old mid new ep
      → IsAnswered defaults start past (Out packet (checked_answer verdict))
  checked_is start past packet bytes verdict old mid new ep j =
      subst (λ (x : OutStep). OutAnswer defaults x (image_after start past) (is_some (working defaults start past)) (checked_answer verdict)) j.step
      (subst (λ (w : Option Command). FeatureAnswer defaults (image_after start past) (is_some w) bytes (checked_answer verdict)) (works_mid start past packet bytes verdict old mid new ep j) j.checks.answer_is)

  ep_after : (start : List ℕ) (past : List Call) (packet bytes : List ℕ) (verdict : Verdict) (old mid new : KeyboardValue) (ep : Stage) → OfferChecked start past packet bytes verdict old mid new ep
      → control_ep.Refines (ep_calls defaults start (Out packet (checked_answer verdict) ∷ past)) ep
  ep_after start past packet bytes verdict old mid new ep j =
      subst (λ (calls : List EpCall). control_ep.Refines calls ep) (sym (ep_calls-out defaults start past packet (checked_answer verdict) (Offer bytes) j.step))
      (subst (λ (v : Verdict). control_ep.Refines (Checked v (checked_answer verdict) ∷ EpOut packet (Offer bytes) ∷ ep_calls defaults start past) ep) j.checks.reported j.ep_is)

  offer_of : (start : List ℕ) (past : List Call) (packet bytes : List ℕ) (verdict : Verdict) (old mid new : KeyboardValue) (ep : Stage) → OfferChecked start past packet bytes verdict old mid new ep → Offered past packet bytes
  offer_of start past packet bytes verdict old mid new ep j = offered past packet bytes (stage_after defaults start past) (serves defaults start past) j.step

  -- a report that is not acknowledged
  offer_refused : (start : List ℕ) (past : List Call) (packet bytes : List ℕ) (verdict : Verdict) (old mid new : KeyboardValue) (ep : Stage) → OfferChecked start past packet bytes verdict old mid new ep
      → (checked_answer verdict ≡ Ack → ⊥) → new ≡ mid → Refines defaults start (Out packet (checked_answer verdict) ∷ past) (record new { ep = ep })
  offer_refused start past packet bytes verdict old mid new ep j n o =
      refines_untaken defaults start past packet (checked_answer verdict) ep old (record new { ep = ep }) j.refines
      (takes_nothing past packet (checked_answer verdict) (unacked past packet (checked_answer verdict) n))
      (ap (λ (k : KeyboardValue). record k { ep = ep }) (o ∙ j.between))
      (ep_after start past packet bytes verdict old mid new ep j)
      (checked_is start past packet bytes verdict old mid new ep j)

  -- an entry that is selected
  offer_selects : (start : List ℕ) (past : List Call) (packet bytes : List ℕ) (verdict : Verdict) (old mid new : KeyboardValue) (ep : Stage) → OfferChecked start past packet bytes verdict old mid new ep
      → slice_index bytes 0 ≡ 0 → checked_answer verdict ≡ Ack → new ≡ record mid { layer = slice_index bytes 1; key = slice_index bytes 2 }
      → Refines defaults start (Out packet Ack ∷ past) (record new { ep = ep })
  offer_selects start past packet bytes verdict old mid new ep j z a o =
      let of : Offered past packet bytes = offer_of start past packet bytes verdict old mid new ep j in
      let is : record new { ep = ep } ≡ record old { ep = ep; layer = slice_index bytes 1; key = slice_index bytes 2 } =
      ap (λ (k : KeyboardValue). record k { ep = ep }) o ∙ ap (λ (k : KeyboardValue). record k { ep = ep; layer = slice_index bytes 1; key = slice_index bytes 2 }) j.between in
      let sent : report_taken past (Out packet Ack) ≡ Some (record { report = FeatureData; bytes = packet }) = feature_taken past packet of.names in
      let zero_at : slice_index packet 1 ≡ 0 = sym (number_at packet bytes 0 of.bytes_are) ∙ z in
      let none : command_in_report (report_taken past (Out packet Ack)) ≡ None = command_when packet (report_taken past (Out packet Ack)) None sent (subst (λ (bs : List ℕ). result_ok (command_of_bytes bs) ≡ None) of.bytes_are (none_read bytes z)) in
      let selects_it : selected (Out packet Ack ∷ past) ≡ record { layer = slice_index packet 2; key = slice_index packet 3 } =
      selected-out past packet Ack (Some (record { layer = slice_index packet 2; key = slice_index packet 3 })) (entry_when packet (report_taken past (Out packet Ack)) sent zero_at) in
      subst (λ (k : KeyboardValue). Refines defaults start (Out packet Ack ∷ past) k) (sym is)
      (refines_with defaults start past (Out packet Ack) old (record old { ep = ep; layer = slice_index bytes 1; key = slice_index bytes 2 }) j.refines (out_leaves defaults start past packet Ack none) refl
      (record {
        ep = subst (λ (x : EpAnswer). control_ep.Refines (ep_calls defaults start (Out packet x ∷ past)) ep) a (ep_after start past packet bytes verdict old mid new ep j);
        keys = rw (keys-out defaults start past packet Ack) j.refines.now.keys;
        protocol = j.refines.now.protocol ∙ sym (protocol-out past packet Ack);
        leds = j.refines.now.leds ∙ sym (leds-out past packet Ack None (no_leds_when packet (report_taken past (Out packet Ack)) sent));
        layer = number_at packet bytes 1 of.bytes_are ∙ ap (λ (x : Entry). x.layer) (sym selects_it);
        key = number_at packet bytes 2 of.bytes_are ∙ ap (λ (x : Entry). x.key) (sym selects_it);
      })
      (subst (λ (x : EpAnswer). IsAnswered defaults start past (Out packet x)) a (checked_is start past packet bytes verdict old mid new ep j)))

  -- a command
  offer_commands : (start : List ℕ) (past : List Call) (packet bytes : List ℕ) (verdict : Verdict) (command : Command) (old mid new : KeyboardValue) (ep : Stage) → OfferChecked start past packet bytes verdict old mid new ep
      → command_of_bytes bytes ≡ Ok command → checked_answer verdict ≡ Ack → at_work mid ≡ None → new ≡ record mid { store = new.store }
      → at_work new ≡ (if changes defaults (keymap defaults (image_after start past)) command then Some command else None) → left defaults (image_after start past) new.store ≤ most_steps
      → (IsSome (at_work new) → Needs defaults (image_after start past) (left defaults (image_after start past) new.store)) → (at_work new ≡ Some command → rest_of defaults (image_after start past) new.store ≡ operations_of defaults (image_after start past) command)
      → Refines defaults start (Out packet Ack ∷ past) (record new { ep = ep })
  offer_commands start past packet bytes verdict command old mid new ep j c a n o w m k i =
      let call : Call = Out packet Ack in
      let of : Offered past packet bytes = offer_of start past packet bytes verdict old mid new ep j in
      let is : new ≡ record old { ep = mid.ep; store = new.store } = o ∙ ap (λ (k : KeyboardValue). record k { store = new.store }) j.between in
      let sent : report_taken past call ≡ Some (record { report = FeatureData; bytes = packet }) = feature_taken past packet of.names in
      let some : slice_index packet 1 ≡ 0 → ⊥ = λ z. no_command bytes command c (number_at packet bytes 0 of.bytes_are ∙ z) in
      let accepted : accepts past call ≡ Some command =
      accepts-out past packet Ack (Some command) (command_when packet (report_taken past call) (Some command) sent (subst (λ (bs : List ℕ). result_ok (command_of_bytes bs) ≡ Some command) of.bytes_are (ap result_ok c))) in
      let none : working defaults start past ≡ None = sym (works_mid start past packet bytes verdict old mid new ep j) ∙ n in
      let keeps : selected (call ∷ past) ≡ selected past = selected-out past packet Ack None (no_entry_when packet (report_taken past call) sent some) in
      let conforming : IsAnswered defaults start past call = subst (λ (x : EpAnswer). IsAnswered defaults start past (Out packet x)) a (checked_is start past packet bytes verdict old mid new ep j) in
      record {
        now = record {
          ep = subst (λ (x : EpAnswer). control_ep.Refines (ep_calls defaults start (Out packet x ∷ past)) ep) a (ep_after start past packet bytes verdict old mid new ep j);
          keys = rw (keys-out defaults start past packet Ack) (subst (λ (x : KeysValue). key_reports.Refines (key_calls defaults start past) x) (sym (ap (λ (x : KeyboardValue). x.keys) is)) j.refines.now.keys);
          store = j.checks.runs_on;
          works = w ∙ by_taken (after_takes defaults start past call command (orderly defaults start past j.refines.answered) (ends_none_out defaults packet Ack) accepted refl (free (working defaults start past) none));
          protocol = ap (λ (x : KeyboardValue). x.protocol) is ∙ j.refines.now.protocol ∙ sym (protocol-out past packet Ack);
          leds = ap (λ (x : KeyboardValue). x.leds) is ∙ j.refines.now.leds ∙ sym (leds-out past packet Ack None (no_leds_when packet (report_taken past call) sent));
          layer = ap (λ (x : KeyboardValue). x.layer) is ∙ j.refines.now.layer ∙ ap (λ (x : Entry). x.layer) (sym keeps);
          key = ap (λ (x : KeyboardValue). x.key) is ∙ j.refines.now.key ∙ ap (λ (x : Entry). x.key) (sym keeps);
          few =
              λ x. subst (λ (n : ℕ). left defaults (image_after start past) new.store + n ≤ most_steps) (sym (steps_since-none call past command accepted))
              (let few : left defaults (image_after start past) new.store ≤ 387 = m in omega (arith, few));
          needs =
              λ x. subst (λ (image : List ℕ). Needs defaults image (left defaults (image_after start past) new.store + steps_since (call ∷ past))) (sym (accepted_image-now start call past command accepted))
              (subst (λ (n : ℕ). Needs defaults (image_after start past) (left defaults (image_after start past) new.store + n)) (sym (steps_since-none call past command accepted))
              (subst (λ (n : ℕ). Needs defaults (image_after start past) n) (plus_none (left defaults (image_after start past) new.store)) (k x)));
          order =
              λ other x. (let same : other ≡ command = only_command (changes defaults (keymap defaults (image_after start past)) command) (at_work new) command other w x in
              rw (same, steps_since-none call past command accepted, accepted_image-now start call past command accepted) (sym (i (rw same at x))));
        };
        answered = (conforming, j.refines.answered);
      }
    where
      by_taken : AfterTaken defaults start past (Out packet Ack) command
          → (if changes defaults (keymap defaults (image_after start past)) command then Some command else None) ≡ working defaults start (Out packet Ack ∷ past)
      by_taken (now_works b h) = rw b (sym (working_after defaults start past (Out packet Ack) (Some command) h))
      by_taken (changed_nothing b h) = rw b (sym (working_after defaults start past (Out packet Ack) None h))

  refines_by : (start : List ℕ) (past : List Call) (packet bytes : List ℕ) (verdict : Verdict) (old mid new : KeyboardValue) (ep : Stage) → OfferChecked start past packet bytes verdict old mid new ep
      → VerdictLeaves defaults (image_after start past) bytes verdict mid new → Refines defaults start (Out packet (checked_answer verdict) ∷ past) (record new { ep = ep })
  refines_by start past packet bytes verdict old mid new ep j (refused n o) = offer_refused start past packet bytes verdict old mid new ep j n o
  refines_by start past packet bytes verdict old mid new ep j (selects z a o) =
      subst (λ (x : EpAnswer). Refines defaults start (Out packet x ∷ past) (record new { ep = ep })) (sym a) (offer_selects start past packet bytes verdict old mid new ep j z a o)
  refines_by start past packet bytes verdict old mid new ep j (commands command c a n o w m k i) =
      subst (λ (x : EpAnswer). Refines defaults start (Out packet x ∷ past) (record new { ep = ep })) (sym a) (offer_commands start past packet bytes verdict command old mid new ep j c a n o w m k i)

  -- a feature report that was offered
  pub refines_offered : (start : List ℕ) (past : List Call) (packet bytes : List ℕ) (verdict : Verdict) (answer : EpAnswer) (old mid new : KeyboardValue) (ep : Stage) → OfferChecked start past packet bytes verdict old mid new ep
      → answer ≡ checked_answer verdict → Refines defaults start (Out packet answer ∷ past) (record new { ep = ep })
  refines_offered start past packet bytes verdict answer old mid new ep j a =
      subst (λ (x : EpAnswer). Refines defaults start (Out packet x ∷ past) (record new { ep = ep })) (sym a) (refines_by start past packet bytes verdict old mid new ep j j.checks.leaves)

  -- the endpoint of a keyboard after a verdict
  pub reported_ep : (image bytes : List ℕ) (verdict : Verdict) (old new : KeyboardValue) → VerdictLeaves defaults image bytes verdict old new → {ep : Stage} → ep ≡ new.ep → ep ≡ old.ep
  reported_ep image bytes verdict old new l e = e ∙ same_ep image bytes verdict old new l

  pub offer_reported : (start : List ℕ) (past : List Call) (packet bytes : List ℕ) (verdict : Verdict) (old mid new : KeyboardValue) (ep : Stage) → Refines defaults start past old
      → Offer bytes ≡ out_step (stage_after defaults start past) packet → mid ≡ record old { ep = mid.ep } → Checks defaults (image_after start past) bytes verdict mid new
      → {answer : EpAnswer} → answer ≡ checked_answer verdict
      → control_ep.Refines (Checked verdict answer ∷ EpOut packet (Offer bytes) ∷ ep_calls defaults start past) ep → OfferChecked start past packet bytes verdict old mid new ep
  offer_reported start past packet bytes verdict old mid new ep s o m j a e = record {
    refines = s;
    step = o;
    between = m;
    checks = j;
    ep_is = subst (λ (x : EpAnswer). control_ep.Refines (Checked verdict x ∷ EpOut packet (Offer bytes) ∷ ep_calls defaults start past) ep) a e;
  }
