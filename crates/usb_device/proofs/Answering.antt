-- What the buffers hold behind a call, by the bus and the session.
use Rattle.std.proofs.lemmas.Grind.{common_steps}
use Rattle.std.proofs.Common.{arith}
use Rattle.std.proofs.Common.{◌≡◌, ℕ, Bool, true, false, List, [], ◌∷◌, Option, Some, None, refl, ap, sym, subst, ◌∙◌, inl, inr}
use Rattle.usb_device.specs.Calls.{EpCall}
use Rattle.usb_device.specs.Bus.{Bus, InMode, Naks, Sends, Stalls, OutMode, NaksOut, Takes, StallsOut, is_pending, write_of}
use Rattle.usb_device.specs.Confirmed.{asked_of}
use Rattle.usb_device.specs.Given.{is_read, outs_of, heard_of, given_of, all_given}
use Rattle.usb_device.specs.Transfers.{TransferState, Idle, Refused, Over, Reads, ReadDue, Sent, Closing, Closed, Opening, Writes, Keeps, Asking, Due, Status, Done, IsOpen, Rests, NothingWithheld0, is_done}
use Rattle.usb_device.specs.Served.{HearsEnd, is_in_due, AsksDue, has_refused, HasCause, NaksFor, idle, puts_off, was_taken, has_come, awaits_data, has_given, was_ended, NaksOutFor, idle_out, puts_off_out, has_come_out, InFor, OutFor, Hears, heard_all, heard_but_new, heard_but_put_off, has_stalled, Answers}
use Rattle.usb_device.specs.representation.Link.{SoundIn, ClosedIf, OnlyBy, HeardBy, IsGiven, BufferIn, PastIn, StandsOf, Stands, StageLink, Link, PutOff}

-- a stall has its cause
stalls_in : (t : TransferState) (s : List ℕ) (b : Bus) (output : OutMode) (taken : Bool) (outs : List (List ℕ)) (calls : List EpCall) → BufferIn t Stalls output taken → Rests t b
    → PastIn t s outs calls → HasCause s outs calls
stalls_in t s b output taken outs calls h1 h2 h3 = grind (arith, common_steps)

stalls_out : (t : TransferState) (s : List ℕ) (b : Bus) (input : InMode) (taken : Bool) (outs : List (List ℕ)) (calls : List EpCall) → BufferIn t input StallsOut taken → Rests t b
    → PastIn t s outs calls → HasCause s outs calls
stalls_out t s b input taken outs calls h1 h2 h3 = grind (arith, common_steps)

-- why IN is answered by NAK
open_naks : (b : Bus) (calls since : List EpCall) → IsOpen b → ((b.output ≡ Takes) → NaksFor b calls since) → NaksFor b calls since
open_naks b calls since (inl e) k = k e
open_naks b calls since (inr x) k = has_come x.0 x.1

given_naks : (b : Bus) (calls since : List EpCall) → b.input ≡ Naks → IsGiven b.input b.met.taken → NaksFor b calls since
given_naks b calls since i (inl x) = absurd (let y : Naks ≡ Sends x.0 x.1 = sym i ∙ x.2 in cc)
given_naks b calls since i (inr x) = was_taken x.1

closed_takes : (out : Option (List ℕ)) (output : OutMode) → output ≡ Takes → ClosedIf out output → out ≡ None
closed_takes out output h1 h2 = grind (arith, common_steps)

naks : (t : TransferState) (s : List ℕ) (b : Bus) (calls since : List EpCall) → b.input ≡ Naks → (t ≡ Writes → write_of b.seen ≡ b.met.out) → StandsOf t s b calls → Rests t b → PutOff t since
    → NaksFor b calls since
naks Idle s b calls since i w x r p = absurd x.past
naks Refused s b calls since i w x r p = absurd r
naks Over s b calls since i w x r p = absurd (let y : Naks ≡ Stalls = sym i ∙ r.0 in cc)
naks (Reads left) s b calls since i w x r p = given_naks b calls since i x.buffer.0
naks (ReadDue left) s b calls since i w x r p = puts_off (inl p)
naks Sent s b calls since i w x r p = has_given s x.asked x.past.1
naks Closing s b calls since i w x r p = absurd r
naks Closed s b calls since i w x r p = was_ended s x.past.1 x.past.2 x.asked x.past.0 x.past.3
naks Opening s b calls since i w x r p = absurd r
naks Writes s b calls since i w x r p = open_naks b calls since r (λ o. awaits_data s x.asked x.past.0 (w refl ∙ closed_takes b.met.out b.output o x.heard.0))
naks (Keeps packet) s b calls since i w x r p = puts_off (inr (packet, p, x.heard.2))
naks Asking s b calls since i w x r p = absurd r
naks Due s b calls since i w x r p = puts_off (inl p)
naks Status s b calls since i w x r p = given_naks b calls since i x.buffer.0
naks Done s b calls since i w x r p = has_given s x.asked x.past.1

in_for : (mode : InMode) (t : TransferState) (s : List ℕ) (b : Bus) (calls since : List EpCall) → b.input ≡ mode → (t ≡ Writes → write_of b.seen ≡ b.met.out) → StandsOf t s b calls → Rests t b
    → PutOff t since → InFor mode b calls since
in_for Naks t s b calls since i w x r p = naks t s b calls since i w x r p
in_for (Sends packet has) t s b calls since i w x r p = tt
in_for Stalls t s b calls since i w x r p =
    let B : InMode → Type 0 = λ y. BufferIn t y b.output b.met.taken in (s, x.asked, stalls_in t s b b.output b.met.taken (outs_of b.seen) calls (subst B i x.buffer) r x.past)

-- why OUT is
open_out : (b : Bus) (calls since : List EpCall) → b.output ≡ NaksOut → IsOpen b → NaksOutFor b calls since
open_out b calls since o (inl e) = absurd (let y : NaksOut ≡ Takes = sym o ∙ e in cc)
open_out b calls since o (inr x) = has_come_out x.0 x.1

naks_out : (t : TransferState) (s : List ℕ) (b : Bus) (calls since : List EpCall) → b.output ≡ NaksOut → StandsOf t s b calls → Rests t b → PutOff t since → NaksOutFor b calls since
naks_out Idle s b calls since o x r p = absurd x.past
naks_out Refused s b calls since o x r p = absurd r
naks_out Over s b calls since o x r p = absurd (let y : NaksOut ≡ StallsOut = sym o ∙ r.1 in cc)
naks_out (Reads left) s b calls since o x r p = open_out b calls since o r
naks_out (ReadDue left) s b calls since o x r p = puts_off_out (inl p)
naks_out Sent s b calls since o x r p = open_out b calls since o r
naks_out Closing s b calls since o x r p = absurd r
naks_out Closed s b calls since o x r p = open_out b calls since o r
naks_out Opening s b calls since o x r p = absurd r
naks_out Writes s b calls since o x r p = open_out b calls since o r
naks_out (Keeps packet) s b calls since o x r p = puts_off_out (inr (packet, p, x.heard.2))
naks_out Asking s b calls since o x r p = absurd r
naks_out Due s b calls since o x r p = open_out b calls since o r
naks_out Status s b calls since o x r p = open_out b calls since o r
naks_out Done s b calls since o x r p = open_out b calls since o r

out_for : (mode : OutMode) (t : TransferState) (s : List ℕ) (b : Bus) (calls since : List EpCall) → b.output ≡ mode → StandsOf t s b calls → Rests t b → PutOff t since → OutFor mode b calls since
out_for NaksOut t s b calls since o x r p = naks_out t s b calls since o x r p
out_for Takes t s b calls since o x r p = tt
out_for StallsOut t s b calls since o x r p =
    let B : OutMode → Type 0 = λ y. BufferIn t b.input y b.met.taken in (s, x.asked, stalls_out t s b b.input b.met.taken (outs_of b.seen) calls (subst B o x.buffer) r x.past)

-- what the device heard
heard_by : (out : Option (List ℕ)) (s : List ℕ) (b : Bus) (calls since : List EpCall) → b.met.out ≡ out → asked_of calls ≡ Some s → HeardBy s out (outs_of b.seen) (heard_of calls) → Hears b calls since
heard_by None s b calls since o a (inl u) = has_stalled (s, a, inr u)
heard_by None s b calls since o a (inr e) = heard_all e
heard_by (Some packet) s b calls since o a (rest, e, inl u) = has_stalled (s, a, inr u)
heard_by (Some packet) s b calls since o a (rest, e, inr f) = heard_but_new packet o (e ∙ ap (λ x. packet ∷ x) f)

only_by : (out : Option (List ℕ)) (b : Bus) (calls since : List EpCall) → b.met.out ≡ out → OnlyBy out (outs_of b.seen) (heard_of calls) → Hears b calls since
only_by None b calls since o e = heard_all e
only_by (Some packet) b calls since o e = heard_but_new packet o e

hears : (t : TransferState) (s : List ℕ) (b : Bus) (calls since : List EpCall) → StandsOf t s b calls → Rests t b → PutOff t since → Hears b calls since
hears Idle s b calls since x r p = absurd x.past
hears Refused s b calls since x r p = absurd r
hears Over s b calls since x r p = has_stalled (s, x.asked, x.past)
hears (Reads left) s b calls since x r p = heard_by b.met.out s b calls since refl x.asked x.heard
hears (ReadDue left) s b calls since x r p = heard_by b.met.out s b calls since refl x.asked x.heard
hears Sent s b calls since x r p = heard_by b.met.out s b calls since refl x.asked x.heard
hears Closing s b calls since x r p = absurd r
hears Closed s b calls since x r p = heard_by b.met.out s b calls since refl x.asked x.heard
hears Opening s b calls since x r p = absurd r
hears Writes s b calls since x r p = only_by b.met.out b calls since refl x.heard.1
hears (Keeps packet) s b calls since x r p = heard_but_put_off packet p x.heard.2
hears Asking s b calls since x r p = absurd r
hears Due s b calls since x r p = heard_by b.met.out s b calls since refl x.asked x.heard
hears Status s b calls since x r p = heard_by b.met.out s b calls since refl x.asked x.heard
hears Done s b calls since x r p = heard_by b.met.out s b calls since refl x.asked x.heard

-- what the device refused is stalled
stalls_both : (t : TransferState) (b : Bus) (refused : Bool) → SoundIn t refused → Rests t b → refused ≡ true → (b.input ≡ Stalls) × (b.output ≡ StallsOut)
stalls_both t b refused h1 h2 h3 = grind (arith, common_steps)

stalled_by : (t : TransferState) (s : List ℕ) (b : Bus) (calls : List EpCall) → StandsOf t s b calls → Rests t b → has_refused (is_read s) calls ≡ true → (b.input ≡ Stalls) × (b.output ≡ StallsOut)
stalled_by Idle s b calls x r e = absurd x.past
stalled_by t s b calls x r e = stalls_both t b (has_refused (is_read s) calls) x.sound r e

-- all of it
written : (t : TransferState) (s : List ℕ) (b : Bus) (calls : List EpCall) → t ≡ Writes → Link t b calls → is_pending b.met ≡ false → StandsOf t s b calls → write_of b.seen ≡ b.met.out
written t s b calls i l p x =
    let c = l.current p in
    let S : TransferState → Type 0 = λ y. StageLink y b calls in
    let P : TransferState → Type 0 = λ y. PastIn y s (outs_of b.seen) calls in
    (subst S i (c.stage s (c.setup ∙ x.asked) (subst P i x.past).0)).1

answers_by : (t : TransferState) (b : Bus) (calls since : List EpCall) → is_pending b.met ≡ false → Link t b calls → Rests t b → PutOff t since → Stands t b calls → Answers b calls since
answers_by t b calls since p l r o (inl x) =
    let c = l.current p in
    let I : InMode → Type 0 = λ y. InFor y b calls since in
    let O : OutMode → Type 0 = λ y. OutFor y b calls since in
    let none : (s : List ℕ) → asked_of calls ≡ Some s → ⊥ = λ s e. (let y : Some s ≡ None = sym e ∙ x.1 in cc) in
    record { setup = c.setup; hands = c.hands; input = subst I (sym x.2) (idle x.1); output = subst O (sym x.3) (idle_out x.1); refused = λ s e. absurd (none s e); hears = λ s e. absurd (none s e); due = λ s e. absurd (none s e) }
answers_by t b calls since p l r o (inr (s, x)) =
    let c = l.current p in record {
      setup = c.setup;
      hands = c.hands;
      input = in_for b.input t s b calls since refl (λ w. written t s b calls w l p x) x r o;
      output = out_for b.output t s b calls since refl x r o;
      refused = λ z e. (let y : Some s ≡ Some z = sym x.asked ∙ e in let same : s ≡ z = cc in
          subst (λ y. has_refused (is_read y) calls ≡ true → (b.input ≡ Stalls) × (b.output ≡ StallsOut)) same (stalled_by t s b calls x r));
      hears = λ z e. hears t s b calls since x r o;
      due = λ z e. (let y : Some s ≡ Some z = sym x.asked ∙ e in let same : s ≡ z = cc in subst (λ y. AsksDue y (outs_of b.seen) calls) same x.due);
    }

pub answers : (t : TransferState) (b : Bus) (calls since : List EpCall) → is_pending b.met ≡ false → Link t b calls → Rests t b → PutOff t since → Answers b calls since
answers t b calls since p l r o = answers_by t b calls since p l r o (l.current p).stands

-- the end of a transfer is heard
due_given : (s : List ℕ) (given heard : List (List ℕ)) → is_in_due s given heard ≡ true → all_given s given ≡ false
due_given s given heard h1 = grind (arith, common_steps)

none_given : (s : List ℕ) (given : List (List ℕ)) → given ≡ [] → all_given s given ≡ false
none_given s given h1 = grind (arith, common_steps)

unlike : (a : Bool) → a ≡ true → a ≡ false → ⊥
unlike a h1 h2 = grind (arith, common_steps)

ends_in : (t : TransferState) (s : List ℕ) (b : Bus) (calls : List EpCall) → StandsOf t s b calls → Rests t b → is_read s ≡ false → all_given s (given_of calls) ≡ true
    → b.input ≡ Naks → b.met.taken ≡ false → is_done t ≡ true
ends_in Idle s b calls x r n a i k = absurd x.past
ends_in Refused s b calls x r n a i k = absurd r
ends_in Over s b calls x r n a i k = absurd (let y : Naks ≡ Stalls = sym i ∙ r.0 in cc)
ends_in (Reads left) s b calls x r n a i k = absurd (unlike (is_read s) x.past.0 n)
ends_in (ReadDue left) s b calls x r n a i k = absurd (unlike (is_read s) x.past.0 n)
ends_in Sent s b calls x r n a i k = absurd (unlike (is_read s) x.past.0 n)
ends_in Closing s b calls x r n a i k = absurd r
ends_in Closed s b calls x r n a i k = absurd (unlike (is_read s) x.past.0 n)
ends_in Opening s b calls x r n a i k = absurd r
ends_in Writes s b calls x r n a i k = absurd (unlike (all_given s (given_of calls)) a (none_given s (given_of calls) x.past.1))
ends_in (Keeps packet) s b calls x r n a i k = absurd (unlike (all_given s (given_of calls)) a (none_given s (given_of calls) x.past.1))
ends_in Asking s b calls x r n a i k = absurd r
ends_in Due s b calls x r n a i k = absurd (unlike (all_given s (given_of calls)) a (due_given s (given_of calls) (heard_of calls) x.past.2))
ends_in Status s b calls x r n a i k = elim x.buffer.0 [
  | inl y ↦ absurd (let z : Naks ≡ Sends y.0 y.1 = sym i ∙ y.2 in cc)
  | inr y ↦ absurd (unlike b.met.taken y.1 k)
]
ends_in Done s b calls x r n a i k = refl

ends_by : (t : TransferState) (b : Bus) (calls : List EpCall) → Stands t b calls → Rests t b → HearsEnd (is_done t) b calls
ends_by t b calls (inl x) r = λ s p e. absurd (let y : Some s ≡ None = sym e ∙ x.1 in cc)
ends_by t b calls (inr (s, x)) r = λ z p e. (let y : Some s ≡ Some z = sym x.asked ∙ e in let same : s ≡ z = cc in
    subst (λ y. is_read y ≡ false → all_given y (given_of calls) ≡ true → b.input ≡ Naks → b.met.taken ≡ false → is_done t ≡ true) same (ends_in t s b calls x r))

pub hears_end : (t : TransferState) (b : Bus) (calls : List EpCall) → Link t b calls → NothingWithheld0 t b → HearsEnd (is_done t) b calls
hears_end t b calls l n = λ s p. ends_by t b calls (l.current p).stands (n p) s p
