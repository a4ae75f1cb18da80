-- How the buffers, the host's packets and the device's answers hang together, while anything happens on the bus.
use Rattle.std.proofs.lemmas.Grind.{common_steps}
use Rattle.std.proofs.Common.{arith}
use Rattle.std.proofs.Common.{◌≡◌, ◌⊎◌, ◌<◌, ◌≤◌, ℕ, ◌+◌, ◌-◌, ◌==◌, ◌||◌, ◌&&◌, not, nat_lt, Bool, true, false, length, length-append, List, [], ◌∷◌, ◌++◌, Option, Some, None, refl, ap, sym, subst, ◌∙◌, inl, inr}
use Rattle.usb_device.specs.declared.answer.EpAnswer.{EpAnswer}
use Rattle.usb_device.specs.declared.answer.EpAnswer.TheVariants.{Ack, Nak, Packet, Stall}
use Rattle.usb_device.specs.Requests.{word_at}
use Rattle.usb_device.specs.WholeReads.{is_last, joined}
use Rattle.usb_device.specs.Calls.{EpCall, SetUp, Out, In, Polled, BusReset}
use Rattle.usb_device.specs.Bus.{Bus, Seen, InGot, InMode, Naks, Sends, Stalls, OutMode, NaksOut, Takes, StallsOut, is_out, is_write, setup_of, looked, got, with_taken, with_ack_lost, with_out, with_stall}
use Rattle.usb_device.specs.Confirmed.{asked_of}
use Rattle.usb_device.specs.Transfers.{TransferState, Idle, Refused, Over, Reads, ReadDue, Closing, Closed, Opening, Writes, Keeps, Asking, Due, Status, Done}
use Rattle.usb_device.specs.Given.{is_read, got_of, outs_of, given_of, heard_of, all_given, Hands, WereGiven, AllGiven}
use Rattle.usb_device.specs.Served.{AsksDue, has_refused, is_undue, is_in_due, refuses}
use Rattle.usb_device.specs.representation.Link.{GoesOn, SoundIn, ClosedIf, OnlyBy, HeardBy, BufferIn, PastIn, HeardIn, Leaves, NoneDue, StandsOf, Stands, is_reading, ended}

-- what the host got is what the device gave
pub were_now : (setup : List ℕ) (packets : List (List ℕ)) (calls : List EpCall) → asked_of calls ≡ Some setup → given_of calls ≡ packets → WereGiven setup packets calls
were_now setup packets [] e f = cc
were_now setup packets (call ∷ before) e f = inl (e, f)

pub given_call : (seen : List Seen) (call : EpCall) (calls : List EpCall) → AllGiven seen calls → AllGiven seen (call ∷ calls)
given_call seen call calls k after before s p e es = inr (k after before s p e es)

given_more : (x : Seen) (seen : List Seen) (calls : List EpCall) → AllGiven seen calls
    → ((s p : List ℕ) → x ≡ InGot p → setup_of seen ≡ Some s → WereGiven s (p ∷ got_of seen) calls) → AllGiven (x ∷ seen) calls
given_more x seen calls k n [] before s p e es =
    let first : x ≡ InGot p = cc in
    let rest : seen ≡ before = cc in
    subst (λ l. WereGiven s (p ∷ got_of l) calls) rest (n s p first (subst (λ l. setup_of l ≡ Some s) (sym rest) es))
given_more x seen calls k n (y ∷ after) before s p e es = k after before s p (let rest : seen ≡ after ++ (InGot p ∷ before) = cc in rest) es

pub given_other : (x : Seen) (seen : List Seen) (calls : List EpCall) → ((p : List ℕ) → x ≡ InGot p → ⊥) → AllGiven seen calls → AllGiven (x ∷ seen) calls
given_other x seen calls o k = given_more x seen calls k (λ s p e es. absurd (o p e))

-- where the packet is the next of the device
pub got_given : (has : Bool) (packet : List ℕ) (b : Bus) (calls : List EpCall) → AllGiven b.seen calls → setup_of b.seen ≡ asked_of calls
    → Hands (Sends packet has) (got_of b.seen) (given_of calls) → AllGiven (got packet has b.seen) calls
got_given true packet b calls k e h = k
got_given false packet b calls k e h =
    given_more (InGot packet) b.seen calls k (λ s p x es. let same : packet ≡ p = cc in
    subst (λ y. WereGiven s (y ∷ got_of b.seen) calls) same (were_now s (packet ∷ got_of b.seen) calls (sym e ∙ es) h))

pub hands_taken : (has : Bool) (packet : List ℕ) (seen : List Seen) (given : List (List ℕ)) → Hands (Sends packet has) (got_of seen) given → given ≡ got_of (got packet has seen)
hands_taken true packet seen given h = h.2
hands_taken false packet seen given h = h

pub hands_lost : (has : Bool) (packet : List ℕ) (seen : List Seen) (given : List (List ℕ)) → Hands (Sends packet has) (got_of seen) given
    → Hands (Sends packet true) (got_of (got packet has seen)) given
hands_lost true packet seen given h = h
hands_lost false packet seen given h = (got_of seen, refl, h)

outs_got : (has : Bool) (packet : List ℕ) (seen : List Seen) → outs_of (got packet has seen) ≡ outs_of seen
outs_got true packet seen = refl
outs_got false packet seen = refl

-- the buffers
buffer_taken : (t : TransferState) (packet : List ℕ) (has : Bool) (output : OutMode) (taken : Bool) → BufferIn t (Sends packet has) output taken → BufferIn t Naks output true
buffer_taken t packet has output taken h1 = grind (arith, common_steps)

buffer_lost : (t : TransferState) (packet : List ℕ) (has : Bool) (output : OutMode) (taken : Bool) → BufferIn t (Sends packet has) output taken → BufferIn t (Sends packet true) output taken
buffer_lost t packet has output taken h1 = grind (arith, common_steps)

buffer_out : (t : TransferState) (input : InMode) (taken : Bool) → BufferIn t input Takes taken → BufferIn t input NaksOut taken
buffer_out t input taken h1 = grind (arith, common_steps)

-- an OUT packet comes
pub undue_more : (setup packet : List ℕ) (outs : List (List ℕ)) → is_undue setup outs ≡ true → is_undue setup (packet ∷ outs) ≡ true
undue_more setup packet [] e = cc
undue_more setup packet (x ∷ outs) e = refl

past_out : (t : TransferState) (s packet : List ℕ) (outs : List (List ℕ)) (calls : List EpCall) → PastIn t s outs calls → PastIn t s (packet ∷ outs) calls
past_out t s packet outs calls h1 = grind (arith, common_steps, undue_more)

heard_out : (t : TransferState) (s packet : List ℕ) (out : Option (List ℕ)) (outs heard : List (List ℕ)) → HeardIn t s out Takes outs heard
    → HeardIn t s (Some packet) NaksOut (packet ∷ outs) heard
heard_out t s packet out outs heard h1 = grind (arith, common_steps, undue_more)

pub due_more : (s packet : List ℕ) (outs : List (List ℕ)) (calls : List EpCall) → AsksDue s outs calls → AsksDue s (packet ∷ outs) calls
due_more s packet outs [] d = tt
due_more s packet outs (SetUp bytes ∷ before) d = tt
due_more s packet outs (BusReset ∷ before) d = tt
due_more s packet outs (In answer ∷ before) d = (d.0, d.1, due_more s packet outs before d.2)
due_more s packet outs (Out bytes answer ∷ before) d = (d.0, (packet ∷ d.1.0, d.1.1, ap (λ x. packet ∷ x) d.1.2), due_more s packet outs before d.2)
due_more s packet outs (Polled answer ∷ before) d = due_more s packet outs before d

-- what happens on the bus
pub stands_taken : (t : TransferState) (b : Bus) (calls : List EpCall) (packet : List ℕ) (has : Bool) → b.input ≡ Sends packet has → Stands t b calls
    → Stands t (with_taken b packet has) calls
stands_taken t b calls packet has i (inl x) = absurd (let y : Sends packet has ≡ Naks = sym i ∙ x.2 in cc)
stands_taken t b calls packet has i (inr (s, x)) =
    let same = sym (outs_got has packet b.seen) in
    let B : InMode → Type 0 = λ y. BufferIn t y b.output b.met.taken in
    let P : List (List ℕ) → Type 0 = λ y. PastIn t s y calls in
    let H : List (List ℕ) → Type 0 = λ y. HeardIn t s b.met.out b.output y (heard_of calls) in
    let D : List (List ℕ) → Type 0 = λ y. AsksDue s y calls in
    inr (s, record { asked = x.asked; buffer = buffer_taken t packet has b.output b.met.taken (subst B i x.buffer); past = subst P same x.past; heard = subst H same x.heard; due = subst D same x.due; sound = x.sound })

pub stands_lost : (t : TransferState) (b : Bus) (calls : List EpCall) (packet : List ℕ) (has : Bool) → b.input ≡ Sends packet has → Stands t b calls
    → Stands t (with_ack_lost b packet has) calls
stands_lost t b calls packet has i (inl x) = absurd (let y : Sends packet has ≡ Naks = sym i ∙ x.2 in cc)
stands_lost t b calls packet has i (inr (s, x)) =
    let same = sym (outs_got has packet b.seen) in
    let B : InMode → Type 0 = λ y. BufferIn t y b.output b.met.taken in
    let P : List (List ℕ) → Type 0 = λ y. PastIn t s y calls in
    let H : List (List ℕ) → Type 0 = λ y. HeardIn t s b.met.out b.output y (heard_of calls) in
    let D : List (List ℕ) → Type 0 = λ y. AsksDue s y calls in
    inr (s, record { asked = x.asked; buffer = buffer_lost t packet has b.output b.met.taken (subst B i x.buffer); past = subst P same x.past; heard = subst H same x.heard; due = subst D same x.due; sound = x.sound })

pub stands_out : (t : TransferState) (b : Bus) (calls : List EpCall) (packet : List ℕ) → b.output ≡ Takes → Stands t b calls → Stands t (with_out b packet) calls
stands_out t b calls packet o (inl x) = absurd (let y : Takes ≡ NaksOut = sym o ∙ x.3 in cc)
stands_out t b calls packet o (inr (s, x)) =
    let B : OutMode → Type 0 = λ y. BufferIn t b.input y b.met.taken in
    let H : OutMode → Type 0 = λ y. HeardIn t s b.met.out y (outs_of b.seen) (heard_of calls) in
    inr (
      s,
      record {
        asked = x.asked;
        buffer = buffer_out t b.input b.met.taken (subst B o x.buffer);
        past = past_out t s packet (outs_of b.seen) calls x.past;
        heard = heard_out t s packet b.met.out (outs_of b.seen) (heard_of calls) (subst H o x.heard);
        due = due_more s packet (outs_of b.seen) calls x.due;
        sound = x.sound;
      },
    )

pub stands_stall : (t : TransferState) (b : Bus) (calls : List EpCall) → Stands t b calls → Stands t (with_stall b) calls
stands_stall t b calls (inl x) = inl (x.0, x.1, x.2, x.3)
stands_stall t b calls (inr (s, x)) = inr (s, record { asked = x.asked; buffer = x.buffer; past = x.past; heard = x.heard; due = x.due; sound = x.sound })

-- commands to the controller
abbrev pub set_both : Bus → InMode → OutMode → Bus
set_both b input output = record { seen = b.seen; input = input; output = output; met = b.met }

goes_take : (input : InMode) (output : OutMode) → GoesOn input output → GoesOn input Takes
goes_take input output h1 = grind (arith, common_steps)

goes_send : (input : InMode) (output : OutMode) (packet : List ℕ) → GoesOn input output → GoesOn (Sends packet false) output
goes_send input output packet h1 = grind (arith, common_steps)

pub hands_stall : (input : InMode) (got given : List (List ℕ)) → Hands input got given → Hands Stalls got given
hands_stall Naks got given h = inl h
hands_stall (Sends packet true) got given h = inl h.2
hands_stall (Sends packet false) got given h = inr (packet, h)
hands_stall Stalls got given h = h

pub writes_open : (b : Bus) (calls : List EpCall) → Stands Opening b calls → Stands Writes (set_both b b.input Takes) calls
writes_open b calls (inl x) = absurd (let y : Opening ≡ Idle = x.0 in cc)
writes_open b calls (inr (s, x)) =
    let C : Option (List ℕ) → Type 0 = λ out. ClosedIf out Takes × OnlyBy out (outs_of b.seen) (heard_of calls) in
    inr (s, record { asked = x.asked; buffer = (x.buffer.0, goes_take b.input b.output x.buffer.1); past = x.past; heard = subst C (sym x.heard.0) (tt, x.heard.2); due = x.due; sound = x.sound })

pub stays_open : (b : Bus) (calls : List EpCall) → Stands Due b calls → Stands Due (set_both b b.input Takes) calls
stays_open b calls (inl x) = absurd (let y : Due ≡ Idle = x.0 in cc)
stays_open b calls (inr (s, x)) = inr (s, record { asked = x.asked; buffer = (x.buffer.0, goes_take b.input b.output x.buffer.1); past = x.past; heard = x.heard; due = x.due; sound = x.sound })

pub reads_open : (left : ℕ) (b : Bus) (calls : List EpCall) → Stands (ReadDue left) b calls → Stands (ReadDue left) (set_both b b.input Takes) calls
reads_open left b calls (inl x) = absurd (let y : ReadDue left ≡ Idle = x.0 in cc)
reads_open left b calls (inr (s, x)) = inr (s, record { asked = x.asked; buffer = (x.buffer.0, goes_take b.input b.output x.buffer.1); past = x.past; heard = x.heard; due = x.due; sound = x.sound })

pub ends_open : (b : Bus) (calls : List EpCall) → Stands Closing b calls → Stands Closed (set_both b b.input Takes) calls
ends_open b calls (inl x) = absurd (let y : Closing ≡ Idle = x.0 in cc)
ends_open b calls (inr (s, x)) = inr (s, record { asked = x.asked; buffer = goes_take b.input b.output x.buffer; past = x.past; heard = x.heard; due = x.due; sound = x.sound })

pub asks_now : (b : Bus) (calls : List EpCall) → Stands Asking b calls → Stands Due b calls
asks_now b calls (inl x) = absurd (let y : Asking ≡ Idle = x.0 in cc)
asks_now b calls (inr (s, x)) = inr (s, record { asked = x.asked; buffer = x.buffer; past = x.past; heard = x.heard; due = x.due; sound = x.sound })

pub stalls_now : (b : Bus) (calls : List EpCall) → Stands Refused b calls → Stands Over (set_both b Stalls b.output) calls
stalls_now b calls (inl x) = absurd (let y : Refused ≡ Idle = x.0 in cc)
stalls_now b calls (inr (s, x)) = inr (s, record { asked = x.asked; buffer = tt; past = x.past; heard = tt; due = x.due; sound = tt })

pub stalls_on : (b : Bus) (calls : List EpCall) → Stands Over b calls → Stands Over (set_both b b.input StallsOut) calls
stalls_on b calls (inl x) = absurd (let y : Over ≡ Idle = x.0 in cc)
stalls_on b calls (inr (s, x)) = inr (s, record { asked = x.asked; buffer = tt; past = x.past; heard = tt; due = x.due; sound = tt })

-- answers to the data of a write
no_read : (s : List ℕ) → is_write s ≡ true → is_read s ≡ false
no_read s h1 = grind (arith, common_steps)

no_write : (s : List ℕ) → is_read s ≡ true → is_write s ≡ false
no_write s h1 = grind (arith, common_steps)

data_due : (s packet : List ℕ) (given heard : List (List ℕ)) → is_write s ≡ true → given ≡ [] → is_in_due s given (packet ∷ heard) ≡ true
data_due s packet given heard w e = let G : List (List ℕ) → Type 0 = λ x. is_in_due s x (packet ∷ heard) ≡ true in subst G (sym e) w

pub takes_data : (packet : List ℕ) (b : Bus) (calls : List EpCall) → Stands (Keeps packet) b calls → Stands Due b (Out packet Ack ∷ calls)
takes_data packet b calls (inl x) = absurd (let y : Keeps packet ≡ Idle = x.0 in cc)
takes_data packet b calls (inr (s, x)) =
    let H : Option (List ℕ) → Type 0 = λ out. HeardBy s out (outs_of b.seen) (packet ∷ heard_of calls) in
    inr (
      s,
      record {
        asked = x.asked;
        buffer = x.buffer;
        past = (no_read s x.past.0, refl, data_due s packet (given_of calls) (heard_of calls) x.past.0 x.past.1);
        heard = subst H (sym x.heard.0) (inr x.heard.2);
        due = (x.sound, ([], heard_of calls, x.heard.2), x.due);
        sound = x.sound;
      },
    )

put_off_sound : (s packet : List ℕ) (calls : List EpCall) → is_read s ≡ false → has_refused (is_read s) calls ≡ false → has_refused (is_read s) (Out packet Nak ∷ calls) ≡ false
put_off_sound s packet calls r f = ap (λ x. x || has_refused (is_read s) calls) r ∙ f

pub puts_data_off : (packet : List ℕ) (b : Bus) (calls : List EpCall) → Stands (Keeps packet) b calls → Stands (Keeps packet) b (Out packet Nak ∷ calls)
puts_data_off packet b calls (inl x) = absurd (let y : Keeps packet ≡ Idle = x.0 in cc)
puts_data_off packet b calls (inr (s, x)) = inr (s, record { asked = x.asked; buffer = x.buffer; past = x.past; heard = x.heard; due = (x.sound, ([], heard_of calls, x.heard.2), x.due); sound = put_off_sound s packet calls (no_read s x.past.0) x.sound })

out_refuses : (read : Bool) (packet : List ℕ) (answer : EpAnswer) → (answer ≡ Ack → ⊥) → (answer ≡ Nak → ⊥) → refuses read (Out packet answer) ≡ true
out_refuses read packet Ack a n = absurd (a refl)
out_refuses read packet Nak a n = absurd (n refl)
out_refuses read packet (Packet bytes) a n = refl
out_refuses read packet Stall a n = refl

in_refuses : (read : Bool) (answer : EpAnswer) → ((packet : _) → answer ≡ Packet packet → ⊥) → (answer ≡ Nak → ⊥) → refuses read (In answer) ≡ true
in_refuses read Ack k n = refl
in_refuses read Nak k n = absurd (n refl)
in_refuses read (Packet packet) k n = absurd (k packet refl)
in_refuses read Stall k n = refl

pub hands_same : (answer : EpAnswer) (calls : List EpCall) → ((packet : _) → answer ≡ Packet packet → ⊥) → given_of (In answer ∷ calls) ≡ given_of calls
hands_same Ack calls k = refl
hands_same Nak calls k = refl
hands_same (Packet packet) calls k = absurd (k packet refl)
hands_same Stall calls k = refl

either_true : (a b : Bool) → a ≡ true → (a || b) ≡ true
either_true a b e = cc

pub refuses_data : (packet : List ℕ) (answer : EpAnswer) (b : Bus) (calls : List EpCall) → (answer ≡ Ack → ⊥) → (answer ≡ Nak → ⊥) → Stands (Keeps packet) b calls
    → Stands Refused b (Out packet answer ∷ calls)
refuses_data packet answer b calls a n (inl x) = absurd (let y : Keeps packet ≡ Idle = x.0 in cc)
refuses_data packet answer b calls a n (inr (s, x)) =
    inr (s, record { asked = x.asked; buffer = tt; past = inl (either_true _ _ (out_refuses (is_read s) packet answer a n)); heard = tt; due = (x.sound, ([], heard_of calls, x.heard.2), x.due); sound = tt })

-- answers to IN tokens
abbrev pub is_due : TransferState → Bool
is_due Due = true
is_due (ReadDue left) = true
is_due _ = false

free_input : (t : TransferState) (input : InMode) (output : OutMode) (taken : Bool) → is_due t ≡ true → BufferIn t input output taken → input ≡ Naks
free_input t input output taken h1 h2 = grind (arith, common_steps)

pub hands_next : (t : TransferState) (packet : List ℕ) (b : Bus) (calls : List EpCall) → is_due t ≡ true → Stands t b calls → Hands b.input (got_of b.seen) (given_of calls)
    → packet ∷ given_of calls ≡ packet ∷ got_of b.seen
hands_next t packet b calls i (inl x) h = let R : TransferState → Type 0 = λ y. is_due y ≡ true in absurd (let z : false ≡ true = subst R x.0 i in cc)
hands_next t packet b calls i (inr (s, x)) h =
    let H : InMode → Type 0 = λ y. Hands y (got_of b.seen) (given_of calls) in
    ap (λ y. packet ∷ y) (subst H (free_input t b.input b.output b.met.taken i x.buffer) h)

status_given : (s packet : List ℕ) (given : List (List ℕ)) → is_read s ≡ false → all_given s (packet ∷ given) ≡ true
status_given s packet given h1 = grind (arith, common_steps)

pub gives_status : (packet : List ℕ) (b : Bus) (calls : List EpCall) → Stands Due b calls → Stands Status (set_both b (Sends packet false) b.output) (In (Packet (record { items = packet })) ∷ calls)
gives_status packet b calls (inl x) = absurd (let y : Due ≡ Idle = x.0 in cc)
gives_status packet b calls (inr (s, x)) =
    inr (
      s,
      record {
        asked = x.asked;
        buffer = (inl (packet, false, refl, x.buffer.0.1), goes_send b.input b.output packet x.buffer.1);
        past = (x.past.1, status_given s packet (given_of calls) x.past.0);
        heard = x.heard;
        due = (x.sound, x.past.2, x.due);
        sound = x.sound;
      },
    )

pub puts_off : (b : Bus) (calls : List EpCall) → Stands Due b calls → Stands Due b (In Nak ∷ calls)
puts_off b calls (inl x) = absurd (let y : Due ≡ Idle = x.0 in cc)
puts_off b calls (inr (s, x)) = inr (s, record { asked = x.asked; buffer = x.buffer; past = x.past; heard = x.heard; due = (x.sound, x.past.2, x.due); sound = x.sound })

pub refuses_status : (answer : EpAnswer) (b : Bus) (calls : List EpCall) → ((packet : _) → answer ≡ Packet packet → ⊥) → (answer ≡ Nak → ⊥) → Stands Due b calls → Stands Refused b (In answer ∷ calls)
refuses_status answer b calls k n (inl x) = absurd (let y : Due ≡ Idle = x.0 in cc)
refuses_status answer b calls k n (inr (s, x)) =
    inr (s, record { asked = x.asked; buffer = tt; past = inl (either_true _ _ (in_refuses (is_read s) answer k n)); heard = tt; due = (x.sound, x.past.2, x.due); sound = tt })

-- those of a read
read_due : (s : List ℕ) (given heard : List (List ℕ)) → is_read s ≡ true → heard ≡ [] → all_given s given ≡ false → is_in_due s given heard ≡ true
read_due s given heard r e a =
    let D : List (List ℕ) → Type 0 = λ x. is_in_due s given x ≡ true in
    subst D (sym e) (rw a (rw (no_write s r) refl))

-- behind a packet of a read so much is left
abbrev pub LeavesBy : ℕ → ℕ → List ℕ → Type 0
LeavesBy left rest packet = ((length packet ≡ 8) × (rest ≡ left - 8)) ⊎ ((length packet < 8) × (rest ≡ 0))

all_by_length : (s packet : List ℕ) (given : List (List ℕ)) (is : Bool) → is_read s ≡ true → is_last (word_at s 6) packet given ≡ is → all_given s (packet ∷ given) ≡ is
all_by_length s packet given is h1 h2 = grind (arith, common_steps)

last_short : (asked : ℕ) (packet : List ℕ) (given : List (List ℕ)) → length packet < 8 → is_last asked packet given ≡ true
last_short asked packet given h1 = grind (arith, common_steps)

last_full : (asked left : ℕ) (packet : List ℕ) (given : List (List ℕ)) → length packet ≡ 8 → left + length (joined given) ≡ asked → left ≤ 8 → is_last asked packet given ≡ true
last_full asked left packet given h1 h2 h3 = let e = length-append (joined given) packet in grind (arith, common_steps, e)

goes_on_full : (asked left : ℕ) (packet : List ℕ) (given : List (List ℕ)) → length packet ≡ 8 → left + length (joined given) ≡ asked → 8 < left → is_last asked packet given ≡ false
goes_on_full asked left packet given h1 h2 h3 = let e = length-append (joined given) packet in grind (arith, common_steps, e)

leaves_by : (less : Bool) (s packet : List ℕ) (left : ℕ) (given : List (List ℕ)) → nat_lt 8 left ≡ less → is_read s ≡ true → length packet ≡ 8 → left + length (joined given) ≡ word_at s 6
    → Leaves (left - 8) s (packet ∷ given)
leaves_by true s packet left given l r e w =
    let f = length-append (joined given) packet in
    inr (grind (arith, l), all_by_length s packet given false r (goes_on_full (word_at s 6) left packet given e w (grind (arith, l))), grind (arith, l, e, w, f))
leaves_by false s packet left given l r e w = inl (grind (arith, l), all_by_length s packet given true r (last_full (word_at s 6) left packet given e w (grind (arith, l))))

leaves : (s packet : List ℕ) (left rest : ℕ) (given : List (List ℕ)) → is_read s ≡ true → LeavesBy left rest packet → left + length (joined given) ≡ word_at s 6
    → Leaves rest s (packet ∷ given)
leaves s packet left rest given r (inl e) w = let L : ℕ → Type 0 = λ x. Leaves x s (packet ∷ given) in subst L (sym e.1) (leaves_by (nat_lt 8 left) s packet left given refl r e.0 w)
leaves s packet left rest given r (inr e) w = inl (e.1, all_by_length s packet given true r (last_short (word_at s 6) packet given e.0))

pub gives_read : (left rest : ℕ) (packet : List ℕ) (b : Bus) (calls : List EpCall) → LeavesBy left rest packet → Stands (ReadDue left) b calls
    → Stands (Reads rest) (set_both b (Sends packet false) b.output) (In (Packet (record { items = packet })) ∷ calls)
gives_read left rest packet b calls l (inl x) = absurd (let y : ReadDue left ≡ Idle = x.0 in cc)
gives_read left rest packet b calls l (inr (s, x)) =
    inr (
      s,
      record {
        asked = x.asked;
        buffer = (inl (packet, false, refl, x.buffer.0.1), goes_send b.input b.output packet x.buffer.1);
        past = (x.past.0, x.past.1, leaves s packet left rest (given_of calls) x.past.0 l x.past.3);
        heard = x.heard;
        due = (x.sound, read_due s (given_of calls) (heard_of calls) x.past.0 x.past.1 x.past.2, x.due);
        sound = x.sound;
      },
    )

pub puts_read_off : (left : ℕ) (b : Bus) (calls : List EpCall) → Stands (ReadDue left) b calls → Stands (ReadDue left) b (In Nak ∷ calls)
puts_read_off left b calls (inl x) = absurd (let y : ReadDue left ≡ Idle = x.0 in cc)
puts_read_off left b calls (inr (s, x)) =
    inr (s, record { asked = x.asked; buffer = x.buffer; past = x.past; heard = x.heard; due = (x.sound, read_due s (given_of calls) (heard_of calls) x.past.0 x.past.1 x.past.2, x.due); sound = x.sound })

pub refuses_read : (left : ℕ) (answer : EpAnswer) (b : Bus) (calls : List EpCall) → ((packet : _) → answer ≡ Packet packet → ⊥) → (answer ≡ Nak → ⊥) → Stands (ReadDue left) b calls
    → Stands Refused b (In answer ∷ calls)
refuses_read left answer b calls k n (inl x) = absurd (let y : ReadDue left ≡ Idle = x.0 in cc)
refuses_read left answer b calls k n (inr (s, x)) =
    inr (
      s,
      record {
        asked = x.asked;
        buffer = tt;
        past = inl (either_true _ _ (in_refuses (is_read s) answer k n));
        heard = tt;
        due = (x.sound, read_due s (given_of calls) (heard_of calls) x.past.0 x.past.1 x.past.2, x.due);
        sound = tt;
      },
    )

-- the OUT packet of a read
reading_heard : (t : TransferState) (s : List ℕ) (out : Option (List ℕ)) (output : OutMode) (outs heard : List (List ℕ)) → is_reading t ≡ true → HeardIn t s out output outs heard
    → HeardBy s out outs heard
reading_heard t s out output outs heard h1 h2 = grind (arith, common_steps)

reading_past : (t : TransferState) (s : List ℕ) (outs : List (List ℕ)) (calls : List EpCall) → is_reading t ≡ true → PastIn t s outs calls → is_read s ≡ true
reading_past t s outs calls h1 h2 = grind (arith, common_steps)

reading_goes : (t : TransferState) (input : InMode) (output : OutMode) (taken : Bool) → is_reading t ≡ true → BufferIn t input output taken → GoesOn input output
reading_goes t input output taken h1 h2 = grind (arith, common_steps)

reading_sound : (t : TransferState) (refused : Bool) → is_reading t ≡ true → SoundIn t refused → refused ≡ false
reading_sound t refused h1 h2 = grind (arith, common_steps)

heard_rest : (s packet : List ℕ) (outs rest heard : List (List ℕ)) → outs ≡ packet ∷ rest → (is_undue s outs ≡ true) ⊎ (rest ≡ heard) → HeardBy s None outs (packet ∷ heard)
heard_rest s packet outs rest heard e (inl u) = inl u
heard_rest s packet outs rest heard e (inr f) = inr (e ∙ ap (λ x. packet ∷ x) f)

closes_by : (s packet : List ℕ) (answer : EpAnswer) (b : Bus) (calls : List EpCall) → asked_of calls ≡ Some s → is_read s ≡ true → GoesOn b.input b.output
    → HeardBy s (Some packet) (outs_of b.seen) (heard_of calls) → has_refused (is_read s) calls ≡ false → AsksDue s (outs_of b.seen) calls → StandsOf (ended answer) s (looked b) (Out packet answer ∷ calls)
closes_by s packet Ack b calls a r g h f d =
    record { asked = a; buffer = g; past = (r, packet, heard_of calls, refl); heard = heard_rest s packet (outs_of b.seen) h.0 (heard_of calls) h.1 h.2; due = (f, ([], h.0, h.1), d); sound = f }
closes_by s packet Nak b calls a r g h f d = record { asked = a; buffer = tt; past = inl (either_true _ _ r); heard = tt; due = (f, ([], h.0, h.1), d); sound = tt }
closes_by s packet (Packet bytes) b calls a r g h f d = record { asked = a; buffer = tt; past = inl refl; heard = tt; due = (f, ([], h.0, h.1), d); sound = tt }
closes_by s packet Stall b calls a r g h f d = record { asked = a; buffer = tt; past = inl refl; heard = tt; due = (f, ([], h.0, h.1), d); sound = tt }

pub closes_stands : (t : TransferState) (packet : List ℕ) (answer : EpAnswer) (b : Bus) (calls : List EpCall) → is_reading t ≡ true → b.met.out ≡ Some packet → Stands t b calls
    → Stands (ended answer) (looked b) (Out packet answer ∷ calls)
closes_stands t packet answer b calls i o (inl x) =
    let R : TransferState → Type 0 = λ y. is_reading y ≡ true in absurd (let z : false ≡ true = subst R x.0 i in cc)
closes_stands t packet answer b calls i o (inr (s, x)) =
    let H : Option (List ℕ) → Type 0 = λ y. HeardBy s y (outs_of b.seen) (heard_of calls) in
    inr (
      s,
      closes_by s packet answer b calls x.asked (reading_past t s (outs_of b.seen) calls i x.past) (reading_goes t b.input b.output b.met.taken i x.buffer)
          (subst H o (reading_heard t s b.met.out b.output (outs_of b.seen) (heard_of calls) i x.heard)) (reading_sound t (has_refused (is_read s) calls) i x.sound) x.due,
    )

-- a packet that is not due
abbrev pub has_ended_by : TransferState → Bool
has_ended_by Closed = true
has_ended_by Due = true
has_ended_by Status = true
has_ended_by Done = true
has_ended_by _ = false

ended_heard : (t : TransferState) (s : List ℕ) (out : Option (List ℕ)) (output : OutMode) (outs heard : List (List ℕ)) → has_ended_by t ≡ true → HeardIn t s out output outs heard
    → HeardBy s out outs heard
ended_heard t s out output outs heard h1 h2 = grind (arith, common_steps)

any_undue : (s packet other : List ℕ) (heard : List (List ℕ)) → is_undue s (packet ∷ heard) ≡ is_undue s (other ∷ heard)
any_undue s packet other [] = refl
any_undue s packet other (x ∷ heard) = refl

ended_past : (t : TransferState) (s : List ℕ) (outs : List (List ℕ)) (calls : List EpCall) → has_ended_by t ≡ true → PastIn t s outs calls → NoneDue s (heard_of calls)
ended_past t s outs calls h1 h2 = grind (arith, common_steps)

undue_now : (s packet : List ℕ) (outs rest heard : List (List ℕ)) → outs ≡ packet ∷ rest → NoneDue s heard → (is_undue s outs ≡ true) ⊎ (rest ≡ heard) → is_undue s outs ≡ true
undue_now s packet outs rest heard e n (inl u) = u
undue_now s packet outs rest heard e n (inr f) =
    let U : List (List ℕ) → Type 0 = λ x. is_undue s x ≡ true in subst U (sym (e ∙ ap (λ x. packet ∷ x) f)) (any_undue s packet [] heard ∙ n)

pub undue_stands : (t : TransferState) (packet : List ℕ) (b : Bus) (calls : List EpCall) → has_ended_by t ≡ true → b.met.out ≡ Some packet → Stands t b calls → Stands Refused (looked b) calls
undue_stands t packet b calls i o (inl x) =
    let R : TransferState → Type 0 = λ y. has_ended_by y ≡ true in absurd (let z : false ≡ true = subst R x.0 i in cc)
undue_stands t packet b calls i o (inr (s, x)) =
    let H : Option (List ℕ) → Type 0 = λ y. HeardBy s y (outs_of b.seen) (heard_of calls) in
    let h = subst H o (ended_heard t s b.met.out b.output (outs_of b.seen) (heard_of calls) i x.heard) in
    inr (s, record { asked = x.asked; buffer = tt; past = inr (undue_now s packet (outs_of b.seen) h.0 (heard_of calls) h.1 (ended_past t s (outs_of b.seen) calls i x.past) h.2); heard = tt; due = x.due; sound = tt })

-- a SETUP packet was met
kinds : (s : List ℕ) (out zero : Bool) → is_out s ≡ out → (word_at s 6 == 0) ≡ zero → (is_write s ≡ (out && not zero)) × (is_read s ≡ (not out && not zero))
kinds s out zero h1 h2 = (rw h1 (rw h2 refl), rw h1 (rw h2 refl))

no_data_read : (s : List ℕ) → (word_at s 6 == 0) ≡ true → is_read s ≡ false
no_data_read s h1 = grind (arith, common_steps)

no_data_due : (s : List ℕ) → (word_at s 6 == 0) ≡ true → (not (is_write s)) ≡ true
no_data_due s h1 = grind (arith, common_steps)

begins_by : (out zero : Bool) (u : TransferState) (s : List ℕ) (b : Bus) (calls : List EpCall) → is_out s ≡ out → (word_at s 6 == 0) ≡ zero → b.input ≡ Naks → b.output ≡ NaksOut
    → outs_of b.seen ≡ [] → (is_write s ≡ true → u ≡ Opening) → (is_read s ≡ true → u ≡ ReadDue (word_at s 6)) → ((word_at s 6 == 0) ≡ true → u ≡ Asking)
    → StandsOf u s (looked b) (SetUp s ∷ calls)
begins_by true false u s b calls h z i o e w r a =
    let S : TransferState → Type 0 = λ x. StandsOf x s (looked b) (SetUp s ∷ calls) in
    let is = (kinds s true false h z).0 in
    subst S (sym (w is)) (record { asked = refl; buffer = ((i, refl), rw i (rw o tt)); past = (is, refl); heard = (refl, rw o tt, e); due = tt; sound = refl })
begins_by false false u s b calls h z i o e w r a =
    let S : TransferState → Type 0 = λ x. StandsOf x s (looked b) (SetUp s ∷ calls) in
    let is = (kinds s false false h z).1 in
    subst S (sym (r is)) (record { asked = refl; buffer = ((i, refl), rw i (rw o tt)); past = (is, refl, refl, grind (arith, common_steps)); heard = inr e; due = tt; sound = refl })
begins_by out true u s b calls h z i o e w r a =
    let S : TransferState → Type 0 = λ x. StandsOf x s (looked b) (SetUp s ∷ calls) in
    let is = kinds s out true h z in
    subst S (sym (a z)) (record { asked = refl; buffer = ((i, refl), rw i (rw o tt)); past = (no_data_read s z, z, no_data_due s z); heard = inr e; due = tt; sound = refl })

pub begins_stands : (u : TransferState) (s : List ℕ) (b : Bus) (calls : List EpCall) → b.input ≡ Naks → b.output ≡ NaksOut → outs_of b.seen ≡ []
    → (is_write s ≡ true → u ≡ Opening) → (is_read s ≡ true → u ≡ ReadDue (word_at s 6)) → ((word_at s 6 == 0) ≡ true → u ≡ Asking)
    → Stands u (looked b) (SetUp s ∷ calls)
begins_stands u s b calls i o e w r a = inr (s, begins_by (is_out s) (word_at s 6 == 0) u s b calls refl refl i o e w r a)

-- a poll
polled_past : (t : TransferState) (s : List ℕ) (outs : List (List ℕ)) (answer : Option (List ℕ)) (calls : List EpCall) → PastIn t s outs calls → PastIn t s outs (Polled answer ∷ calls)
polled_past t s outs answer calls h1 = grind (arith, common_steps)

polled_sound : (t : TransferState) (s : List ℕ) (answer : Option (List ℕ)) (calls : List EpCall) → SoundIn t (has_refused (is_read s) calls)
    → SoundIn t (has_refused (is_read s) (Polled answer ∷ calls))
polled_sound t s answer calls h = h

pub polled_stands : (t : TransferState) (b : Bus) (answer : Option (List ℕ)) (calls : List EpCall) → Stands t b calls → Stands t b (Polled answer ∷ calls)
polled_stands t b answer calls (inl x) = inl (x.0, x.1, x.2, x.3)
polled_stands t b answer calls (inr (s, x)) = inr (s, record { asked = x.asked; buffer = x.buffer; past = polled_past t s (outs_of b.seen) answer calls x.past; heard = x.heard; due = x.due; sound = polled_sound t s answer calls x.sound })
