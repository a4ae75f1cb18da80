-- Where in the keyboard's session a confirmed write stands.
use Rattle.std.proofs.Common.{◌≡◌, ℕ, List, [], ◌∷◌, ◌++◌, drop, Some, refl, sym, ap, ◌∙◌, inl, inr}
use Rattle.std.specs.Result.{result_ok}
use Rattle.std.proofs.lemmas.List.{append_assoc}
use Rattle.layers.specs.declared.command.Command.{Command}
use Rattle.control_ep.specs.Transfers.{FeatureData}
use Rattle.control_ep.specs.declared.answer.EpAnswer.TheVariants as Answers
use Rattle.usb_device.specs.Confirmed.{asked_of, taken_of, WasConfirmed}
use Rattle.keyboard.specs.Calls.{Call, Scanned, SetUp, Out, In, Polled, Worked, BusReset, setup_of}
use Rattle.keyboard.specs.Effects.{report_named}
use Rattle.keyboard.specs.Feature.{command_of_bytes}
use Rattle.keyboard.specs.Commands.{accepts}
use Rattle.keyboard.specs.Acknowledged.{confirmation, SameTransfer, IsConfirmed}
use Rattle.usb_keyboard.specs.Plain.{usb_calls}

pub asked_setup : (past : List Call) → setup_of past ≡ asked_of (usb_calls past)
asked_setup [] = refl
asked_setup (Scanned scan ∷ before) = asked_setup before
asked_setup (SetUp bytes ∷ before) = refl
asked_setup (Out packet answer ∷ before) = asked_setup before
asked_setup (In answer ∷ before) = asked_setup before
asked_setup (Polled answer ∷ before) = asked_setup before
asked_setup (Worked work image ∷ before) = asked_setup before
asked_setup (BusReset ∷ before) = refl

-- where the empty packet came
pub record Found (past : List Call) (setup data_ : List ℕ) : Type 0 where
  pub after : List Call
  pub rest : List Call
  pub past_is : past ≡ after ++ (confirmation ∷ rest)
  pub asked : asked_of (usb_calls rest) ≡ Some setup
  pub taken : taken_of (usb_calls rest) ≡ Some data_

deeper : (call : Call) (past : List Call) (setup data_ : List ℕ) → Found past setup data_ → Found (call ∷ past) setup data_
deeper call past setup data_ f = record { after = call ∷ f.after; rest = f.rest; past_is = ap (λ x. call ∷ x) f.past_is; asked = f.asked; taken = f.taken }

found : (past : List Call) (setup data_ : List ℕ) → WasConfirmed setup data_ (usb_calls past) → Found past setup data_
found [] setup data_ w = absurd w
found (Scanned scan ∷ before) setup data_ w = deeper (Scanned scan) before setup data_ (found before setup data_ w)
found (SetUp bytes ∷ before) setup data_ (inl w) = absurd (let e = w.0 in cc)
found (SetUp bytes ∷ before) setup data_ (inr w) = deeper (SetUp bytes) before setup data_ (found before setup data_ w)
found (Out packet answer ∷ before) setup data_ (inl w) = absurd (let e = w.0 in cc)
found (Out packet answer ∷ before) setup data_ (inr w) = deeper (Out packet answer) before setup data_ (found before setup data_ w)
found (In Answers.Ack ∷ before) setup data_ (inl w) = absurd (let e = w.0 in cc)
found (In Answers.Nak ∷ before) setup data_ (inl w) = absurd (let e = w.0 in cc)
found (In (Answers.Stall why) ∷ before) setup data_ (inl w) = absurd (let e = w.0 in cc)
found (In (Answers.Packet packet) ∷ before) setup data_ (inl w) =
    let e = w.0 in
    let p : packet ≡ record { items = [] } = cc in
    record { after = []; rest = before; past_is = ap (λ x. In (Answers.Packet x) ∷ before) p; asked = w.1; taken = w.2 }
found (In answer ∷ before) setup data_ (inr w) = deeper (In answer) before setup data_ (found before setup data_ w)
found (Polled answer ∷ before) setup data_ (inl w) = absurd (let e = w.0 in cc)
found (Polled answer ∷ before) setup data_ (inr w) = deeper (Polled answer) before setup data_ (found before setup data_ w)
found (Worked work image ∷ before) setup data_ w = deeper (Worked work image) before setup data_ (found before setup data_ w)
found (BusReset ∷ before) setup data_ (inl w) = absurd (let e = w.0 in cc)
found (BusReset ∷ before) setup data_ (inr w) = deeper BusReset before setup data_ (found before setup data_ w)

-- where the data were acknowledged
pub record Taken (rest : List Call) (setup data_ : List ℕ) : Type 0 where
  pub between : List Call
  pub before : List Call
  pub rest_is : rest ≡ between ++ (Out data_ Answers.Ack ∷ before)
  pub same : SameTransfer between
  pub of_setup : setup_of before ≡ Some setup

further : (call : Call) (rest : List Call) (setup data_ : List ℕ) → (t : Taken rest setup data_) → SameTransfer (call ∷ t.between) → Taken (call ∷ rest) setup data_
further call rest setup data_ t s = record { between = call ∷ t.between; before = t.before; rest_is = ap (λ x. call ∷ x) t.rest_is; same = s; of_setup = t.of_setup }

pub taken_at : (rest : List Call) (setup data_ : List ℕ) → asked_of (usb_calls rest) ≡ Some setup → taken_of (usb_calls rest) ≡ Some data_ → Taken rest setup data_
taken_at [] setup data_ a t = absurd (let e = t in cc)
taken_at (Scanned scan ∷ rest) setup data_ a t = let f = taken_at rest setup data_ a t in further (Scanned scan) rest setup data_ f f.same
taken_at (SetUp bytes ∷ rest) setup data_ a t = absurd (let e = t in cc)
taken_at (Out packet Answers.Ack ∷ rest) setup data_ a t =
    let e : packet ≡ data_ = (let x = t in cc) in
    record { between = []; before = rest; rest_is = ap (λ x. Out x Answers.Ack ∷ rest) e; same = tt; of_setup = asked_setup rest ∙ a }
taken_at (Out packet Answers.Nak ∷ rest) setup data_ a t = let f = taken_at rest setup data_ a t in further (Out packet Answers.Nak) rest setup data_ f f.same
taken_at (Out packet (Answers.Packet p) ∷ rest) setup data_ a t = let f = taken_at rest setup data_ a t in further (Out packet (Answers.Packet p)) rest setup data_ f f.same
taken_at (Out packet (Answers.Stall why) ∷ rest) setup data_ a t = let f = taken_at rest setup data_ a t in further (Out packet (Answers.Stall why)) rest setup data_ f f.same
taken_at (In answer ∷ rest) setup data_ a t = let f = taken_at rest setup data_ a t in further (In answer) rest setup data_ f f.same
taken_at (Polled answer ∷ rest) setup data_ a t = let f = taken_at rest setup data_ a t in further (Polled answer) rest setup data_ f f.same
taken_at (Worked work image ∷ rest) setup data_ a t = let f = taken_at rest setup data_ a t in further (Worked work image) rest setup data_ f f.same
taken_at (BusReset ∷ rest) setup data_ a t = absurd (let e = t in cc)

pub accepted_by : (before : List Call) (setup data_ : List ℕ) (command : Command) → setup_of before ≡ Some setup → report_named (Some setup) ≡ Some FeatureData
    → result_ok (command_of_bytes (drop 1 data_)) ≡ Some command → accepts before (Out data_ Answers.Ack) ≡ Some command
unfolding accepts
accepted_by before setup data_ command s n c = rw (s, n) c

pub confirmed : (past : List Call) (setup data_ : List ℕ) (command : Command) → WasConfirmed setup data_ (usb_calls past) → report_named (Some setup) ≡ Some FeatureData
    → result_ok (command_of_bytes (drop 1 data_)) ≡ Some command → (before : List Call) × IsConfirmed past before command
confirmed past setup data_ command w n c =
    let f = found past setup data_ w in
    let t = taken_at f.rest setup data_ f.asked f.taken in
    let packet = Out data_ Answers.Ack in
    let tail = packet ∷ t.before in (
      t.before,
      record {
        packet = packet;
        between = t.between;
        after = f.after;
        past_is = f.past_is ∙ ap (λ x. f.after ++ (confirmation ∷ x)) t.rest_is ∙ sym (append_assoc f.after (confirmation ∷ t.between) tail);
        accepted = accepted_by t.before setup data_ command t.of_setup n c;
        same_transfer = t.same;
      },
    )
