-- What a keyboard accepted since a command was confirmed is what the host sent since.
use Rattle.std.proofs.Common.{◌≡◌, ℕ, ◌<◌, nat_lt, ◌==◌, ◌&&◌, Bool, true, false, List, [], ◌∷◌, ◌++◌, drop, slice_index, Option, Some, None, sym, ap, subst, ◌∙◌, append_assoc, refl, inl, inr, arith}
use Rattle.std.specs.Result.{result_ok}
use Rattle.layers.specs.Codes.{layers, keys, DefaultCodes}
use Rattle.layers.specs.Entries.{written}
use Rattle.layers.specs.declared.command.Command.{Command}
use Rattle.control_ep.specs.Transfers.{FeatureData}
use Rattle.control_ep.specs.declared.answer.EpAnswer.{EpAnswer as Answer}
use Rattle.control_ep.specs.declared.answer.EpAnswer.TheVariants as Answers
use Rattle.usb_device.specs.Bus.{Seen, is_out}
use Rattle.usb_device.specs.Calls.{EpCall}
use Rattle.usb_device.specs.Calls as Eps
use Rattle.usb_device.specs.Requests.{word_at}
use Rattle.usb_device.specs.Confirmed.{asked_of, taken_of, TakesOnly, ConfirmedBefore}
use Rattle.keyboard.specs.Acknowledged.{confirmation, SameTransfer, DoesNotWrite, NoneAcceptedWrites, IsConfirmed}
use Rattle.keyboard.specs.Calls.{Call, Scanned, SetUp, Out, In, Polled, Worked, BusReset, setup_of, EachCall}
use Rattle.keyboard.specs.Commands.{accepts}
use Rattle.keyboard.specs.Effects.{report_named}
use Rattle.keyboard.specs.Feature.{command_of_bytes}
use Rattle.keyboard.specs.Conforming.{IsAnswered}
use Rattle.keyboard.specs.representation.Value.{KeyboardValue}
use Rattle.keyboard.proofs.Confirming as keyboard
use Rattle.keyboard.proofs.Effects.{Accepts, accepted_by}
use Rattle.keyboard.proofs.Telling.{EachCall-later}
use Rattle.usb_keyboard.specs.Plain.{plain, usb_calls}
use Rattle.usb_keyboard.specs.Stored.{Brings, IsSent, AllSent, NoneSent, Has}
use Rattle.usb_keyboard.specs.representation.Relation.{RunsSince, RefinesUsb, IsStored}
use Rattle.usb_keyboard.proofs.Confirming as confirming
use Rattle.usb_keyboard.proofs.Confirming.{Taken, taken_at, asked_setup}
use Rattle.usb_keyboard.proofs.Counting.{feature_named}
use Rattle.usb_keyboard.proofs.Keeping.{has_confirmed}
use Rattle.usb_keyboard.proofs.Once.{once, same_later}

-- ---- a command that was accepted was sent

first_of : (a b c : Bool) → (a && b && c) ≡ true → a ≡ true
first_of true b c e = refl
first_of false b c e = cc

kind_out : (n : ℕ) → (n == 0x21) ≡ true → nat_lt n 128 ≡ true
kind_out n e = grind (arith, e)

feature_out : (setup : List ℕ) → report_named (Some setup) ≡ Some FeatureData → is_out setup ≡ true
feature_out setup e =
    kind_out (slice_index setup 0) (first_of (slice_index setup 0 == 0x21) (slice_index setup 1 == 0x09) (word_at setup 2 == 0x0303) (feature_named (Some setup) e))

none_named : report_named None ≡ Some FeatureData → ⊥
unfolding report_named
none_named e = cc

sent_by : (sent : List Seen) (o : Option (List ℕ)) (calls : List EpCall) (packet : List ℕ) (command : Command) → o ≡ asked_of calls → report_named o ≡ Some FeatureData
    → result_ok (command_of_bytes (drop 1 packet)) ≡ Some command → TakesOnly sent calls (Eps.Out packet (plain Answers.Ack)) → IsSent sent command
sent_by sent None calls packet command a n r t = absurd (none_named n)
sent_by sent (Some setup) calls packet command a n r t =
    record { setup = setup; data_ = packet; was_sent = t setup (sym a) (feature_out setup n); brings = record { named = n; read = r } }

accepted_sent : (sent : List Seen) (before : List Call) (packet : List ℕ) (answer : Answer) (command : Command) → accepts before (Out packet answer) ≡ Some command
    → TakesOnly sent (usb_calls before) (Eps.Out packet (plain answer)) → IsSent sent command
accepted_sent sent before packet answer command e t =
    let by : Accepts before packet answer command = accepted_by before packet answer command e in
    sent_by sent (setup_of before) (usb_calls before) packet command (asked_setup before) by.names (ap result_ok by.reads)
    (subst (λ (x : Answer). TakesOnly sent (usb_calls before) (Eps.Out packet (plain x))) by.acknowledged t)

-- ---- where the empty packet came

record Found (past : List Call) (sent : List Seen) (setup data_ : List ℕ) : Type 0 where
  after : List Call
  rest : List Call
  past_is : past ≡ after ++ (confirmation ∷ rest)
  asked : asked_of (usb_calls rest) ≡ Some setup
  taken : taken_of (usb_calls rest) ≡ Some data_
  since : AllSent sent after (confirmation ∷ rest)

deeper : (call : Call) (past : List Call) (sent : List Seen) (setup data_ : List ℕ) → ((command : Command) → accepts past call ≡ Some command → IsSent sent command)
    → Found past sent setup data_ → Found (call ∷ past) sent setup data_
deeper call past sent setup data_ s f = record {
  after = call ∷ f.after;
  rest = f.rest;
  past_is = ap (λ x. call ∷ x) f.past_is;
  asked = f.asked;
  taken = f.taken;
  since = (λ command e. s command (subst (λ (l : List Call). accepts l call ≡ Some command) (sym f.past_is) e), f.since);
}

none_is : (command : Command) → None ≡ Some command → ⊥
none_is command e = cc

found : (past : List Call) (sent : List Seen) (setup data_ : List ℕ) → ConfirmedBefore sent setup data_ (usb_calls past) → Found past sent setup data_
unfolding accepts
found [] sent setup data_ w = absurd w
found (Scanned scan ∷ before) sent setup data_ w = deeper (Scanned scan) before sent setup data_ (λ c e. absurd (none_is c e)) (found before sent setup data_ w)
found (SetUp bytes ∷ before) sent setup data_ (inl w) = absurd (let e = w.0 in cc)
found (SetUp bytes ∷ before) sent setup data_ (inr w) = deeper (SetUp bytes) before sent setup data_ (λ c e. absurd (none_is c e)) (found before sent setup data_ w.1)
found (Out packet answer ∷ before) sent setup data_ (inl w) = absurd (let e = w.0 in cc)
found (Out packet answer ∷ before) sent setup data_ (inr w) = deeper (Out packet answer) before sent setup data_ (λ c e. accepted_sent sent before packet answer c e w.0) (found before sent setup data_ w.1)
found (In Answers.Ack ∷ before) sent setup data_ (inl w) = absurd (let e = w.0 in cc)
found (In Answers.Nak ∷ before) sent setup data_ (inl w) = absurd (let e = w.0 in cc)
found (In (Answers.Stall why) ∷ before) sent setup data_ (inl w) = absurd (let e = w.0 in cc)
found (In (Answers.Packet packet) ∷ before) sent setup data_ (inl w) =
    let e = w.0 in
    let p : packet ≡ record { items = [] } = cc in
    record { after = []; rest = before; past_is = ap (λ x. In (Answers.Packet x) ∷ before) p; asked = w.1; taken = w.2; since = tt }
found (In answer ∷ before) sent setup data_ (inr w) = deeper (In answer) before sent setup data_ (λ c e. absurd (none_is c e)) (found before sent setup data_ w.1)
found (Polled answer ∷ before) sent setup data_ (inl w) = absurd (let e = w.0 in cc)
found (Polled answer ∷ before) sent setup data_ (inr w) = deeper (Polled answer) before sent setup data_ (λ c e. absurd (none_is c e)) (found before sent setup data_ w.1)
found (Worked work image ∷ before) sent setup data_ w = deeper (Worked work image) before sent setup data_ (λ c e. absurd (none_is c e)) (found before sent setup data_ w)
found (BusReset ∷ before) sent setup data_ (inl w) = absurd (let e = w.0 in cc)
found (BusReset ∷ before) sent setup data_ (inr w) = deeper BusReset before sent setup data_ (λ c e. absurd (none_is c e)) (found before sent setup data_ w.1)

-- ---- what was accepted since

sent_append : (sent : List Seen) (xs ys past : List Call) → AllSent sent xs (ys ++ past) → AllSent sent ys past → AllSent sent (xs ++ ys) past
sent_append sent [] ys past a b = b
sent_append sent (x ∷ xs) ys past a b =
    ((λ command e. a.0 command (subst (λ (l : List Call). accepts l x ≡ Some command) (append_assoc xs ys past) e)), sent_append sent xs ys past a.1 b)

no_writer : (defaults : DefaultCodes) (layer key : ℕ) (o : Option Command) → ((command : Command) → o ≡ Some command → written defaults command layer key ≡ None) → DoesNotWrite defaults layer key o
no_writer defaults layer key None f = tt
no_writer defaults layer key (Some command) f = f command refl

none_sent : (defaults : DefaultCodes) (sent : List Seen) (calls past : List Call) (layer key : ℕ) → NoneSent defaults sent layer key → AllSent sent calls past → NoneAcceptedWrites defaults calls past layer key
none_sent defaults sent [] past layer key n a = tt
none_sent defaults sent (call ∷ calls) past layer key n a =
    (no_writer defaults layer key (accepts (calls ++ past) call) (λ command e. n command (a.0 command e)), none_sent defaults sent calls past layer key n a.1)

module _ (defaults : DefaultCodes) where
  -- behind a command its transfer brings none
  none_more : (start : List ℕ) (sent : List Seen) (calls before : List Call) (packet : List ℕ) (command : Command) → SameTransfer calls → accepts before (Out packet Answers.Ack) ≡ Some command
      → EachCall (IsAnswered defaults) start (calls ++ Out packet Answers.Ack ∷ before) → AllSent sent calls (Out packet Answers.Ack ∷ before)
  none_more start sent [] before packet command s a all = tt
  none_more start sent (call ∷ calls) before packet command s a all =
      let rest : SameTransfer calls = same_later call calls s in
      let none : accepts (calls ++ Out packet Answers.Ack ∷ before) call ≡ None = once defaults start calls before packet Answers.Ack command call rest a all.1 all.0 in
      ((λ other e. absurd (none_is other (sym none ∙ e))), none_more start sent calls before packet command rest a all.1)

  stored_by : (start : List ℕ) (past : List Call) (keyboard : KeyboardValue) (image : List ℕ) (sent : List Seen) (setup data_ : List ℕ) (command : Command) → RunsSince defaults start past keyboard image
      → ConfirmedBefore sent setup data_ (usb_calls past) → Brings setup data_ command → IsStored defaults sent keyboard image command
  stored_by start past keyboard_ image sent setup data_ command r w b =
      let f = found past sent setup data_ w in
      let t = taken_at f.rest setup data_ f.asked f.taken in
      let packet : Call = Out data_ Answers.Ack in
      let tail : List Call = packet ∷ t.before in
      let calls : List Call = confirmation ∷ t.between in
      let accepted : accepts t.before packet ≡ Some command = confirming.accepted_by t.before setup data_ command t.of_setup b.named b.read in
      let rest_is : confirmation ∷ f.rest ≡ calls ++ tail = ap (λ x. confirmation ∷ x) t.rest_is in
      let whole : past ≡ f.after ++ (calls ++ tail) = f.past_is ∙ ap (λ x. f.after ++ x) rest_is in
      let c : IsConfirmed past t.before command = record {
        packet = packet;
        between = t.between;
        after = f.after;
        past_is = whole ∙ sym (append_assoc f.after calls tail);
        accepted = accepted;
        same_transfer = t.same;
      } in
      let all : EachCall (IsAnswered defaults) start (f.after ++ (calls ++ tail)) = subst (λ (xs : List Call). EachCall (IsAnswered defaults) start xs) whole r.refines.answered in
      let later : AllSent sent f.after (calls ++ tail) = subst (λ (xs : List Call). AllSent sent f.after xs) rest_is f.since in
      record {
        start = start;
        past = past;
        runs = r;
        before = t.before;
        confirmed = c;
        settled = keyboard.confirmed defaults start past t.before command r.refines.answered c;
        since = sent_append sent f.after calls tail later (none_more start sent calls t.before data_ command t.same accepted (EachCall-later (IsAnswered defaults) start f.after (calls ++ tail) all));
        has = λ layer key code l k x n. has_confirmed defaults start past t.before command layer key code l k r.refines.answered c x n;
      }

  pub stored : (calls : List EpCall) (keyboard : KeyboardValue) (image : List ℕ) (sent : List Seen) (setup data_ : List ℕ) (command : Command) → RefinesUsb defaults calls keyboard image
      → ConfirmedBefore sent setup data_ calls → Brings setup data_ command → IsStored defaults sent keyboard image command
  stored calls keyboard_ image sent setup data_ command s w b =
      let P : List EpCall → Type 0 = λ x. ConfirmedBefore sent setup data_ x in
      stored_by s.0 s.1 keyboard_ image sent setup data_ command s.2 (subst P (sym s.3) w) b

  -- in the host's words
  pub until_sent : (later : List Seen) (keyboard : KeyboardValue) (image : List ℕ) (command : Command) (layer key code : ℕ) → (s : IsStored defaults later keyboard image command)
      → layer < layers → key < keys → written defaults command layer key ≡ Some code → NoneSent defaults later layer key → Has defaults s.start s.past layer key code
  until_sent later keyboard_ image command layer key code s l k x n = s.has layer key code l k x (none_sent defaults later (s.confirmed.after ++ confirmation ∷ s.confirmed.between) (s.confirmed.packet ∷ s.before) layer key n s.since)
