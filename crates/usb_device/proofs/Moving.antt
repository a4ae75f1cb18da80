-- What each move of the endpoint makes of the link.
use Rattle.std.proofs.lemmas.Grind.{common_steps}
use Rattle.std.proofs.Common.{arith}
use Rattle.std.proofs.Common.{◌≡◌, ◌⊎◌, ℕ, ◌==◌, Bool, true, false, ◌||◌, is_some, List, [], ◌∷◌, ◌++◌, Option, Some, None, refl, sym, subst, ◌∙◌, inl, inr}
use Rattle.usb_device.specs.declared.answer.EpAnswer.{EpAnswer}
use Rattle.usb_device.specs.declared.answer.EpAnswer.TheVariants.{Ack, Nak, Packet, Stall}
use Rattle.usb_device.specs.Calls.{EpCall, SetUp, Out, In, BusReset, Polled}
use Rattle.usb_device.specs.Requests.{word_at}
use Rattle.usb_device.specs.Bus.{Bus, Met, Seen, InGot, InMode, Sends, Stalls, OutMode, Takes, StallsOut, Goes, looked, is_pending, is_out, is_write, setup_of, unless_pending, with_input, with_output}
use Rattle.usb_device.specs.Confirmed.{asked_of, TakesOnly, AllKept}
use Rattle.usb_device.specs.Given.{is_read, got_of, given_of, Hands, AllGiven}
use Rattle.usb_device.specs.Transfers.{TransferState, Idle, Refused, Over, Reads, ReadDue, Closing, Closed, Opening, Writes, Keeps, Asking, Due, Status}
use Rattle.usb_device.specs.representation.Link.{IsQuiet, IsClosed, ClosedIf, ConfirmsIf, StageLink, Stands, Link, is_reading, ended}
use Rattle.usb_device.proofs.Linked.{goes, sent_since}
use Rattle.usb_device.proofs.Standing.{given_call, hands_stall, hands_same, hands_next, writes_open, stays_open, ends_open, stalls_now, stalls_on, takes_data, puts_data_off, refuses_data, gives_status, puts_off, refuses_status, gives_read, LeavesBy, asks_now, has_ended_by, reads_open, puts_read_off, refuses_read, closes_stands, undue_stands, begins_stands, polled_stands}

abbrev set_to : Bus → InMode → OutMode → Bus
set_to b input output = record { seen = b.seen; input = input; output = output; met = b.met }

-- a command to the controller, and what the device was asked before
moved_by : (pending : Bool) (t u : TransferState) (b : Bus) (input : InMode) (output : OutMode) (calls later : List EpCall) → is_pending b.met ≡ pending
    → AllKept b.seen later → AllGiven b.seen later → asked_of later ≡ asked_of calls → Link t b calls
    → (StageLink t b calls → StageLink u (set_to b input output) later)
    → (Stands t b calls → Hands b.input (got_of b.seen) (given_of calls) → Hands input (got_of b.seen) (given_of later))
    → (Stands t b calls → Stands u (set_to b input output) later) → Link u (unless_pending pending b (set_to b input output)) later
moved_by true t u b input output calls later p k g e h f m n = record { kept = k; given = g; fresh = h.fresh; current = λ q. absurd (let x : true ≡ false = sym p ∙ q in cc) }
moved_by false t u b input output calls later p k g e h f m n = record {
  kept = k;
  given = g;
  fresh = λ q. absurd (let x : false ≡ true = sym p ∙ q in cc);
  current = λ q. let c = h.current q in record { setup = c.setup ∙ sym e; stage = λ s es ew. f (c.stage s es ew); hands = m c.stands c.hands; stands = n c.stands };
}

commanded : (t u : TransferState) (b : Bus) (input : InMode) (output : OutMode) (calls : List EpCall) → Link t b calls
    → (StageLink t b calls → StageLink u (set_to b input output) calls)
    → (Stands t b calls → Hands b.input (got_of b.seen) (given_of calls) → Hands input (got_of b.seen) (given_of calls))
    → (Stands t b calls → Stands u (set_to b input output) calls) → Link u (unless_pending (is_pending b.met) b (set_to b input output)) calls
commanded t u b input output calls h f m n = moved_by (is_pending b.met) t u b input output calls calls refl h.kept h.given refl h f m n

-- one more call of the device: data that it takes are such that the host sent since
abbrev TakesSince : List Seen → List EpCall → EpCall → Type 0
TakesSince seen calls call = (after before : List Seen) → seen ≡ after ++ (InGot [] ∷ before) → TakesOnly after calls call

grown : (seen : List Seen) (call : EpCall) (calls : List EpCall) → TakesSince seen calls call → AllKept seen calls → AllKept seen (call ∷ calls)
grown seen call calls f k after before s d e es ew ed = inr (f after before e, k after before s d e es ew ed)

answered : (t u : TransferState) (b : Bus) (call : EpCall) (calls : List EpCall) → asked_of (call ∷ calls) ≡ asked_of calls → given_of (call ∷ calls) ≡ given_of calls
    → TakesSince b.seen calls call → Link t b calls
    → (StageLink t b calls → StageLink u b (call ∷ calls)) → (Stands t b calls → Stands u b (call ∷ calls)) → Link u b (call ∷ calls)
answered t u b call calls e g f h k n = record {
  kept = grown b.seen call calls f h.kept;
  given = given_call b.seen call calls h.given;
  fresh = h.fresh;
  current = λ q. let c = h.current q in record {
    setup = c.setup ∙ sym e;
    stage = λ s es ew. k (c.stage s es ew);
    hands = subst (λ x. Hands b.input (got_of b.seen) x) (sym g) c.hands;
    stands = n c.stands;
  };
}

-- the packet of a write
writes_now : (packet s : List ℕ) (b : Bus) (calls : List EpCall) → Stands (Keeps packet) b calls → asked_of calls ≡ Some s → is_write s ≡ true
writes_now packet s b calls (inl x) a = absurd (let y : Keeps packet ≡ Idle = x.0 in cc)
writes_now packet s b calls (inr (r, x)) a = let y : Some r ≡ Some s = sym x.asked ∙ a in let same : r ≡ s = cc in subst (λ z. is_write z ≡ true) same x.past.0

takes_kept : (packet : List ℕ) (answer : EpAnswer) (b : Bus) (calls : List EpCall) → is_pending b.met ≡ false → Link (Keeps packet) b calls → TakesSince b.seen calls (Out packet answer)
takes_kept packet Ack b calls p h after before e = λ setup a o.
    let c = h.current p in
    let es : setup_of b.seen ≡ Some setup = c.setup ∙ a in
    let s = c.stage setup es (writes_now packet setup b calls c.stands a) in
    sent_since b.seen after before setup packet e es s.2 s.4
takes_kept packet Nak b calls p h after before e = tt
takes_kept packet (Packet bytes) b calls p h after before e = tt
takes_kept packet Stall b calls p h after before e = tt

-- the controller is opened for the packet of a write
pub opened : (steps : List Bus) (mid b new : Bus) (t : TransferState) (calls : List EpCall) → Goes steps b mid → new ≡ with_output mid Takes → t ≡ Opening → Link t b calls
    → Link Writes new calls
opened steps mid b new t calls g e i h =
    let P : Bus → Type 0 = λ x. Link Writes x calls in
    let T : TransferState → Type 0 = λ x. Link x b calls in
    subst P (sym e) (commanded Opening Writes mid mid.input Takes calls (goes steps Opening b mid calls g (subst T i h))
    (λ s. let C : Option (List ℕ) → Type 0 = λ out. ClosedIf out Takes in (s.0, s.2 ∙ sym s.4, subst C (sym s.4) tt, s.3, s.5)) (λ x y. y) (writes_open mid calls))

-- OUT is opened again
pub reopened : (t : TransferState) (steps : List Bus) (mid b new : Bus) (calls : List EpCall) → Goes steps b mid → new ≡ with_output mid Takes → t ≡ Due → Link t b calls → Link Due new calls
reopened t steps mid b new calls g e i h =
    let P : Bus → Type 0 = λ x. Link Due x calls in
    let T : TransferState → Type 0 = λ x. Link x b calls in
    subst P (sym e) (commanded Due Due mid mid.input Takes calls (goes steps Due b mid calls g (subst T i h)) (λ s. s) (λ x y. y) (stays_open mid calls))

-- no write is under way: nothing is owed
nothing_owed : (t u : TransferState) (b next : Bus) (calls later : List EpCall) → is_reading t ≡ true → StageLink t b calls → StageLink u next later
nothing_owed t u b next calls later h1 h2 = grind (arith, common_steps)

-- the status stage of a request without data
pub asking_due : (t : TransferState) (b : Bus) (calls : List EpCall) → t ≡ Asking → Link t b calls → Link Due b calls
asking_due t b calls i h =
    let T : TransferState → Type 0 = λ x. Link x b calls in
    let a = subst T i h in
    record {
      kept = a.kept;
      given = a.given;
      fresh = a.fresh;
      current = λ q. let c = a.current q in record { setup = c.setup; stage = λ s es ew. absurd (c.stage s es ew); hands = c.hands; stands = asks_now b calls c.stands };
    }

-- the read is over, and OUT is opened again
pub closed_again : (t : TransferState) (steps : List Bus) (mid b new : Bus) (calls : List EpCall) → Goes steps b mid → new ≡ with_output mid Takes → t ≡ Closing → Link t b calls → Link Closed new calls
closed_again t steps mid b new calls g e i h =
    let P : Bus → Type 0 = λ x. Link Closed x calls in
    let T : TransferState → Type 0 = λ x. Link x b calls in
    subst P (sym e) (commanded Closing Closed mid mid.input Takes calls (goes steps Closing b mid calls g (subst T i h)) (λ s. absurd s) (λ x y. y) (ends_open mid calls))

-- the transfer is refused
pub refused : (t : TransferState) (steps : List Bus) (mid b middle : Bus) (more : List Bus) (end new : Bus) (calls : List EpCall)
    → Goes steps b mid → middle ≡ with_input mid Stalls → Goes more middle end → new ≡ with_output end StallsOut → t ≡ Refused → Link t b calls → Link Over new calls
refused t steps mid b middle more end new calls g e i f q h =
    let P : Bus → Type 0 = λ x. Link Over x calls in
    let T : TransferState → Type 0 = λ x. Link x b calls in
    let first = commanded Refused Over mid Stalls mid.output calls (goes steps Refused b mid calls g (subst T q h)) (λ s. tt) (λ x y. hands_stall mid.input (got_of mid.seen) (given_of calls) y) (stalls_now mid calls) in
    let then = subst P (sym e) first in
    subst P (sym f) (commanded Over Over end end.input StallsOut calls (goes more Over middle end calls i then) (λ s. s) (λ x y. y) (stalls_on end calls))

-- the device takes the packet of a write
pub offered_ack : (b : Bus) (t : TransferState) (packet : List ℕ) (calls : List EpCall) → t ≡ Keeps packet → is_pending b.met ≡ false → Link t b calls → Link Due b (Out packet Ack ∷ calls)
offered_ack b t packet calls i p h =
    let T : TransferState → Type 0 = λ x. Link x b calls in
    let k = subst T i h in
    answered (Keeps packet) Due b (Out packet Ack) calls refl refl (takes_kept packet Ack b calls p k) k (λ s. (s.0, (packet, s.2, refl))) (takes_data packet b calls)

pub offered_nak : (b : Bus) (t : TransferState) (packet : List ℕ) (calls : List EpCall) → t ≡ Keeps packet → Link t b calls → Link t b (Out packet Nak ∷ calls)
offered_nak b t packet calls i h =
    let T : TransferState → Type 0 = λ x. Link x b calls in
    let U : TransferState → Type 0 = λ x. Link x b (Out packet Nak ∷ calls) in
    subst U (sym i) (answered (Keeps packet) (Keeps packet) b (Out packet Nak) calls refl refl (λ after before e. tt) (subst T i h) (λ s. s) (puts_data_off packet b calls))

-- any other answer to it
no_ack : (answer : EpAnswer) → ((bytes : _) × (answer ≡ Packet bytes)) ⊎ (answer ≡ Stall) → answer ≡ Ack → ⊥
no_ack answer (inl e) f = let x : Packet e.0 ≡ Ack = sym e.1 ∙ f in cc
no_ack answer (inr e) f = cc

not_put_off : (answer : EpAnswer) → ((bytes : _) × (answer ≡ Packet bytes)) ⊎ (answer ≡ Stall) → answer ≡ Nak → ⊥
not_put_off answer (inl e) f = let x : Packet e.0 ≡ Nak = sym e.1 ∙ f in cc
not_put_off answer (inr e) f = cc

pub offered_else : (b : Bus) (t : TransferState) (packet : List ℕ) (answer : EpAnswer) (calls : List EpCall) → t ≡ Keeps packet → is_pending b.met ≡ false
    → ((bytes : _) × (answer ≡ Packet bytes)) ⊎ (answer ≡ Stall) → Link t b calls → Link Refused b (Out packet answer ∷ calls)
offered_else b t packet answer calls i p a h =
    let T : TransferState → Type 0 = λ x. Link x b calls in
    let k = subst T i h in
    answered (Keeps packet) Refused b (Out packet answer) calls refl refl (takes_kept packet answer b calls p k) k (λ s. inl s.0) (refuses_data packet answer b calls (no_ack answer a) (not_put_off answer a))

sends_now : (packet : List ℕ) (calls : List EpCall) → ConfirmsIf (Sends packet false) (In (Packet (record { items = packet })) ∷ calls)
sends_now packet calls = grind (arith, common_steps)

same_stage : (packet : List ℕ) (b : Bus) (calls : List EpCall) → StageLink Due b calls → StageLink Status (set_to b (Sends packet false) b.output) (In (Packet (record { items = packet })) ∷ calls)
same_stage packet b calls s = (sends_now packet calls, s.1)

-- the packet of the status stage is handed over
pub handed : (steps : List Bus) (mid b new : Bus) (t : TransferState) (packet : List ℕ) (calls : List EpCall) → t ≡ Due → Link t b calls → Goes steps b mid
    → new ≡ with_input mid (Sends packet false) → Link Status new (In (Packet (record { items = packet })) ∷ calls)
handed steps mid b new t packet calls i h g e =
    let T : TransferState → Type 0 = λ x. Link x b calls in
    let call = In (Packet (record { items = packet })) in
    let after = call ∷ calls in
    let P : Bus → Type 0 = λ x. Link Status x after in
    let due = goes steps Due b mid calls g (subst T i h) in
    subst P (sym e) (moved_by (is_pending mid.met) Due Status mid (Sends packet false) mid.output calls after refl
    (grown mid.seen call calls (λ x y q. tt) due.kept) (given_call mid.seen call calls due.given) refl due (same_stage packet mid calls) (hands_next Due packet mid calls refl) (gives_status packet mid calls))

pub due_nak : (b : Bus) (t : TransferState) (calls : List EpCall) → t ≡ Due → Link t b calls → Link t b (In Nak ∷ calls)
due_nak b t calls i h =
    let T : TransferState → Type 0 = λ x. Link x b calls in
    let U : TransferState → Type 0 = λ x. Link x b (In Nak ∷ calls) in
    subst U (sym i) (answered Due Due b (In Nak) calls refl refl (λ x y q. tt) (subst T i h) (λ s. s) (puts_off b calls))

no_packet : (answer : EpAnswer) → (answer ≡ Ack) ⊎ (answer ≡ Stall) → (packet : _) → answer ≡ Packet packet → ⊥
no_packet answer (inl e) packet f = cc
no_packet answer (inr e) packet f = cc

no_nak : (answer : EpAnswer) → (answer ≡ Ack) ⊎ (answer ≡ Stall) → answer ≡ Nak → ⊥
no_nak answer (inl e) f = cc
no_nak answer (inr e) f = cc

pub due_else : (b : Bus) (t : TransferState) (answer : EpAnswer) (calls : List EpCall) → t ≡ Due → (answer ≡ Ack) ⊎ (answer ≡ Stall) → Link t b calls → Link Refused b (In answer ∷ calls)
due_else b t answer calls i a h =
    let k = no_packet answer a in
    let n = no_nak answer a in
    let T : TransferState → Type 0 = λ x. Link x b calls in
    answered Due Refused b (In answer) calls refl (hands_same answer calls k) (λ x y q. tt) (subst T i h) (λ s. inl s.0) (refuses_status answer b calls k n)

-- the packet of a read
pub read_nak : (left : ℕ) (b : Bus) (calls : List EpCall) → Link (ReadDue left) b calls → Link (ReadDue left) b (In Nak ∷ calls)
read_nak left b calls h = answered (ReadDue left) (ReadDue left) b (In Nak) calls refl refl (λ x y q. tt) h (λ s. absurd s) (puts_read_off left b calls)

pub read_else : (left : ℕ) (b : Bus) (answer : EpAnswer) (calls : List EpCall) → (answer ≡ Ack) ⊎ (answer ≡ Stall) → Link (ReadDue left) b calls → Link Refused b (In answer ∷ calls)
read_else left b answer calls a h =
    let k = no_packet answer a in
    let n = no_nak answer a in
    answered (ReadDue left) Refused b (In answer) calls refl (hands_same answer calls k) (λ x y q. tt) h (λ s. absurd s) (refuses_read left answer b calls k n)

pub read_hands : (steps : List Bus) (mid b middle : Bus) (more : List Bus) (end new : Bus) (left rest : ℕ) (packet : List ℕ) (calls : List EpCall)
    → Goes steps b mid → middle ≡ with_output mid Takes → Goes more middle end → new ≡ with_input end (Sends packet false)
    → LeavesBy left rest packet → Link (ReadDue left) b calls → Link (Reads rest) new (In (Packet (record { items = packet })) ∷ calls)
read_hands steps mid b middle more end new left rest packet calls g e i f l h =
    let call = In (Packet (record { items = packet })) in
    let after = call ∷ calls in
    let Q : Bus → Type 0 = λ x. Link (ReadDue left) x calls in
    let P : Bus → Type 0 = λ x. Link (Reads rest) x after in
    let first = commanded (ReadDue left) (ReadDue left) mid mid.input Takes calls (goes steps (ReadDue left) b mid calls g h) (λ s. s) (λ x y. y) (reads_open left mid calls) in
    let due = goes more (ReadDue left) middle end calls i (subst Q (sym e) first) in
    subst P (sym f) (moved_by (is_pending end.met) (ReadDue left) (Reads rest) end (Sends packet false) end.output calls after refl
    (grown end.seen call calls (λ x y q. tt) due.kept) (given_call end.seen call calls due.given) refl due (λ s. absurd s) (hands_next (ReadDue left) packet end calls refl) (gives_read left rest packet end calls l))

-- what was met is looked at
pub not_pending : (met : Met) → met.reset ≡ false → met.setup ≡ None → is_pending met ≡ false
not_pending met e f = cc

looked_on : (t u : TransferState) (b : Bus) (calls : List EpCall) → Link t b calls → b.met.reset ≡ false → b.met.setup ≡ None
    → (StageLink t b calls → StageLink u (looked b) calls) → (Stands t b calls → Stands u (looked b) calls) → Link u (looked b) calls
looked_on t u b calls h e f k n = record {
  kept = h.kept;
  given = h.given;
  fresh = λ q. absurd (let r : false ≡ true = q in cc);
  current = λ q. let c = h.current (not_pending b.met e f) in record { setup = c.setup; stage = λ s es ew. k (c.stage s es ew); hands = c.hands; stands = n c.stands };
}

-- a packet came that is not due

undue_stage : (t : TransferState) (b : Bus) (calls : List EpCall) → has_ended_by t ≡ true → StageLink t b calls → StageLink Refused (looked b) calls
undue_stage t b calls h1 h2 = grind (arith, common_steps)

pub looked_undue : (t : TransferState) (packet : List ℕ) (b : Bus) (calls : List EpCall) → has_ended_by t ≡ true → b.met.reset ≡ false → b.met.setup ≡ None → b.met.out ≡ Some packet → Link t b calls
    → Link Refused (looked b) calls
looked_undue t packet b calls i e f o h = looked_on t Refused b calls h e f (undue_stage t b calls i) (undue_stands t packet b calls i o)

-- the OUT packet of a read ends it
reads_now : (t : TransferState) (s : List ℕ) (b : Bus) (calls : List EpCall) → is_reading t ≡ true → Stands t b calls → asked_of calls ≡ Some s → is_read s ≡ true
reads_now t s b calls h1 h2 h3 = grind (arith, common_steps)

out_not_read : (s : List ℕ) → is_read s ≡ true → is_out s ≡ true → ⊥
out_not_read s h1 h2 = grind (arith, common_steps)

takes_read : (t : TransferState) (packet : List ℕ) (answer : EpAnswer) (b : Bus) (calls : List EpCall) → is_reading t ≡ true → is_pending b.met ≡ false → Link t b calls
    → TakesSince b.seen calls (Out packet answer)
takes_read t packet Ack b calls i p h after before e = λ s a o. absurd (out_not_read s (reads_now t s b calls i (h.current p).stands a) o)
takes_read t packet Nak b calls i p h after before e = tt
takes_read t packet (Packet bytes) b calls i p h after before e = tt
takes_read t packet Stall b calls i p h after before e = tt

pub closes : (t : TransferState) (b : Bus) (packet : List ℕ) (answer : EpAnswer) (calls : List EpCall) → is_reading t ≡ true → b.met.reset ≡ false → b.met.setup ≡ None → b.met.out ≡ Some packet
    → Link t b calls → Link (ended answer) (looked b) (Out packet answer ∷ calls)
closes t b packet answer calls i e f o h =
    let p = not_pending b.met e f in
    let c = h.current p in
    record {
      kept = grown b.seen (Out packet answer) calls (takes_read t packet answer b calls i p h) h.kept;
      given = given_call b.seen (Out packet answer) calls h.given;
      fresh = λ q. absurd (let r : false ≡ true = q in cc);
      current = λ q. record {
        setup = c.setup;
        stage = λ s es ew. nothing_owed t (ended answer) b (looked b) calls (Out packet answer ∷ calls) i (c.stage s es ew);
        hands = c.hands;
        stands = closes_stands t packet answer b calls i o c.stands;
      };
    }

-- a SETUP packet was met
pending_setup : (x : Bool) (o : Option (List ℕ)) (setup : List ℕ) → o ≡ Some setup → (x || is_some o) ≡ true
pending_setup x o setup h1 = grind (arith, common_steps)

pub begins : (t u : TransferState) (b : Bus) (before calls : List EpCall) (setup : List ℕ) → Link t b before → b.met.setup ≡ Some setup → AllKept b.seen calls → AllGiven b.seen calls
    → (is_write setup ≡ true → u ≡ Opening) → (is_read setup ≡ true → u ≡ ReadDue (word_at setup 6)) → ((word_at setup 6 == 0) ≡ true → u ≡ Asking)
    → Link u (looked b) (SetUp setup ∷ calls)
begins t u b before calls setup h e k g o r a =
    let f = h.fresh (pending_setup b.met.reset b.met.setup setup e) in
    let quiet : IsQuiet b.input = subst IsQuiet (sym f.input) tt in
    let closed : IsClosed b.output = subst IsClosed (sym f.output) tt in
    let W : List ℕ → Type 0 = λ x. is_write x ≡ true in
    let first : (s : List ℕ) → setup_of b.seen ≡ Some s → s ≡ setup = λ s es. (let x : Some s ≡ Some setup = sym es ∙ (f.setup ∙ e) in cc) in
    record {
      kept = grown b.seen (SetUp setup) calls (λ x y q. tt) k;
      given = given_call b.seen (SetUp setup) calls g;
      fresh = λ q. absurd (let r : false ≡ true = q in cc);
      current = λ q. record {
        setup = f.setup ∙ e;
        stage = λ s es ew.
            let S : TransferState → Type 0 = λ x. StageLink x (looked b) (SetUp setup ∷ calls) in
            subst S (sym (o (subst W (first s es) ew))) (quiet, closed, f.write, refl, refl, f.ended);
        hands = subst (λ x. Hands x (got_of b.seen) []) (sym f.input) (sym f.got);
        stands = begins_stands u setup b calls f.input f.output f.outs o r a;
      };
    }

-- the calls before a SETUP packet, with the reset that came before it
abbrev pub behind_reset : Bool → List EpCall → List EpCall
behind_reset true calls = BusReset ∷ calls
behind_reset false calls = calls

pub stood : (P : List EpCall → Type 0) (reset : Bool) (setup : List ℕ) (calls : List EpCall) → (reset ≡ true → P (SetUp setup ∷ BusReset ∷ calls))
    → (reset ≡ false → P (SetUp setup ∷ calls)) → P (SetUp setup ∷ behind_reset reset calls)
stood P reset setup calls h1 h2 = grind (arith, common_steps)

pub kept_behind : (reset : Bool) (t : TransferState) (b : Bus) (calls : List EpCall) → Link t b calls → AllKept b.seen (behind_reset reset calls)
kept_behind reset t b calls h1 = grind (arith, common_steps)

pub given_behind : (reset : Bool) (t : TransferState) (b : Bus) (calls : List EpCall) → Link t b calls → AllGiven b.seen (behind_reset reset calls)
given_behind true t b calls h = given_call b.seen BusReset calls h.given
given_behind false t b calls h = h.given

pub resets : (t : TransferState) (b : Bus) (calls : List EpCall) → Link t b calls → b.met.reset ≡ true → b.met.setup ≡ None → Link Idle (looked b) (BusReset ∷ calls)
resets t b calls h e n =
    let p : is_pending b.met ≡ true = cc in
    let f = h.fresh p in
    record {
      kept = grown b.seen BusReset calls (λ x y q. tt) h.kept;
      given = given_call b.seen BusReset calls h.given;
      fresh = λ q. absurd (let r : false ≡ true = q in cc);
      current = λ q. record {
        setup = f.setup ∙ n;
        stage = λ s es ew. subst IsQuiet (sym f.input) tt;
        hands = subst (λ x. Hands x (got_of b.seen) []) (sym f.input) (sym f.got);
        stands = inl (refl, refl, f.input, f.output);
      };
    }

polled_stage : (t : TransferState) (b : Bus) (answer : Option (List ℕ)) (calls : List EpCall) → StageLink t b calls → StageLink t b (Polled answer ∷ calls)
polled_stage t b answer calls h1 = grind (arith, common_steps)

pub polled_link : (t : TransferState) (b : Bus) (answer : Option (List ℕ)) (calls : List EpCall) → Link t b calls → Link t b (Polled answer ∷ calls)
polled_link t b answer calls h = answered t t b (Polled answer) calls refl refl (λ x y q. tt) h (polled_stage t b answer calls) (polled_stands t b answer calls)
