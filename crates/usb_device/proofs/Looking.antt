-- What a call to the whole looks at, hands on and asks for.
use Rattle.std.proofs.Common.{◌≡◌, ℕ, Bool, true, false, List, [], ◌∷◌, ◌++◌, append_assoc, Option, Some, None, refl, sym, ap, subst, ◌∙◌}
use Rattle.usb_device.specs.Calls.{EpCall, SetUp, Out, In, Polled, BusReset}
use Rattle.usb_device.specs.Bus.{Bus, Met, Seen, SetupSent, OutTaken, InGot, WasStalled, WasReset, InMode, OutMode, Happens, sets_up, takes_in, loses_ack, brings_out, stalls, resets, Goes, got, is_pending, unless_pending, with_input, with_output}
use Rattle.usb_device.specs.Bus1.{beside, KeptUnless}
use Rattle.usb_device.specs.Transfers.{TransferState, Idle, Refused, Over, Reads, ReadDue, Sent, Closing, Closed, Opening, Writes, Keeps, Asking, Due, Status, Done, NothingWithheld0, last_0}
use Rattle.usb_device.specs.Served.{Grows, reset_if, set_up_if, handed_on, AreAsked, Looks}
use Rattle.usb_device.specs.representation.Link.{Link, Asks, PutOff, AsksNow, LooksAs}
use Rattle.usb_device.proofs.Addressing.{kept_further}
use Rattle.usb_device.proofs.Moving.{behind_reset}
use Rattle.usb_device.proofs.Answering.{answers}

-- more came
pub grows_none : (seen : List Seen) → Grows seen seen
grows_none seen = ([], refl)

pub grows_then : (a b c : List Seen) → Grows a b → Grows b c → Grows a c
grows_then a b c x y = (y.0 ++ x.0, y.1 ∙ ap (λ s. y.0 ++ s) x.1 ∙ sym (append_assoc y.0 x.0 a))

grows_as : (a : List Seen) (b next : Bus) → next ≡ b → Grows a b.seen → Grows a next.seen
grows_as a b next e x = let P : Bus → Type 0 = λ y. Grows a y.seen in subst P (sym e) x

got_grows : (packet : List ℕ) (has : Bool) (seen : List Seen) → Grows seen (got packet has seen)
got_grows packet true seen = ([], refl)
got_grows packet false seen = (InGot packet ∷ [], refl)

step_grows : (b next : Bus) → Happens b next → Grows b.seen next.seen
step_grows b next (sets_up bytes e) = grows_as b.seen _ next e (SetupSent bytes ∷ [], refl)
step_grows b next (takes_in packet has i e) = grows_as b.seen _ next e (got_grows packet has b.seen)
step_grows b next (loses_ack packet has i e) = grows_as b.seen _ next e (got_grows packet has b.seen)
step_grows b next (brings_out packet t e) = grows_as b.seen _ next e (OutTaken packet ∷ [], refl)
step_grows b next (stalls e) = grows_as b.seen _ next e (WasStalled ∷ [], refl)
step_grows b next (resets e) = grows_as b.seen _ next e (WasReset ∷ [], refl)

pub grows_goes : (steps : List Bus) (b next : Bus) → Goes steps b next → Grows b.seen next.seen
grows_goes [] b next e = grows_as b.seen b next e ([], refl)
grows_goes (mid ∷ rest) b next g = grows_then b.seen mid.seen next.seen (step_grows b mid g.0) (grows_goes rest mid next g.1)

same_seen : (pending : Bool) (b next : Bus) → next.seen ≡ b.seen → (unless_pending pending b next).seen ≡ b.seen
same_seen true b next e = refl
same_seen false b next e = e

pub input_grows : (steps : List Bus) (b mid new : Bus) (mode : InMode) → Goes steps b mid → new ≡ with_input mid mode → Grows b.seen new.seen
input_grows steps b mid new mode g e =
    let x = grows_goes steps b mid g in (x.0, ap (λ (y : Bus). y.seen) e ∙ same_seen (is_pending mid.met) mid _ refl ∙ x.1)

pub output_grows : (steps : List Bus) (b mid new : Bus) (mode : OutMode) → Goes steps b mid → new ≡ with_output mid mode → Grows b.seen new.seen
output_grows steps b mid new mode g e =
    let x = grows_goes steps b mid g in (x.0, ap (λ (y : Bus). y.seen) e ∙ same_seen (is_pending mid.met) mid _ refl ∙ x.1)

-- more was asked
pub asks_none : (calls : List EpCall) → Asks calls calls
asks_none calls = ([], refl, tt)

pub asks_nothing : (t : TransferState) (calls : List EpCall) → PutOff t [] → AsksNow t calls calls
asks_nothing t calls p = ([], refl, tt, p)

asked_both : (more since : List EpCall) → AreAsked more → AreAsked since → AreAsked (more ++ since)
asked_both [] since a b = b
asked_both (SetUp bytes ∷ more) since a b = absurd a
asked_both (Out packet answer ∷ more) since a b = asked_both more since a b
asked_both (In answer ∷ more) since a b = asked_both more since a b
asked_both (Polled answer ∷ more) since a b = absurd a
asked_both (BusReset ∷ more) since a b = absurd a

last_both : (more since : List EpCall) (call : EpCall) → last_0 more ≡ Some call → last_0 (more ++ since) ≡ Some call
last_both [] since call e = cc
last_both (SetUp bytes ∷ more) since call e = e
last_both (Out packet answer ∷ more) since call e = e
last_both (In answer ∷ more) since call e = e
last_both (Polled answer ∷ more) since call e = last_both more since call e
last_both (BusReset ∷ more) since call e = e

put_off_both : (t : TransferState) (more since : List EpCall) → PutOff t more → PutOff t (more ++ since)
put_off_both Idle more since p = tt
put_off_both Refused more since p = tt
put_off_both Over more since p = tt
put_off_both (Reads left) more since p = tt
put_off_both (ReadDue left) more since p = last_both more since _ p
put_off_both Sent more since p = tt
put_off_both Closing more since p = tt
put_off_both Closed more since p = tt
put_off_both Opening more since p = tt
put_off_both Writes more since p = tt
put_off_both (Keeps packet) more since p = last_both more since _ p
put_off_both Asking more since p = tt
put_off_both Due more since p = last_both more since _ p
put_off_both Status more since p = tt
put_off_both Done more since p = tt

pub asks_more : (t : TransferState) (calls mid later : List EpCall) → Asks calls mid → AsksNow t mid later → AsksNow t calls later
asks_more t calls mid later a b =
    (b.0 ++ a.0, b.1 ∙ ap (λ x. b.0 ++ x) a.1 ∙ sym (append_assoc b.0 a.0 calls), asked_both b.0 a.0 b.2 a.2, put_off_both t b.0 a.0 b.3)

-- what was met is handed on
asked_beside : (since : List EpCall) → AreAsked since → beside since ≡ []
asked_beside [] a = refl
asked_beside (SetUp bytes ∷ since) a = absurd a
asked_beside (Out packet answer ∷ since) a = asked_beside since a
asked_beside (In answer ∷ since) a = asked_beside since a
asked_beside (Polled answer ∷ since) a = absurd a
asked_beside (BusReset ∷ since) a = absurd a

handed_kept : (reset : Bool) (setup : Option (List ℕ)) (calls : List EpCall) → KeptUnless reset calls (set_up_if setup (reset_if reset calls))
handed_kept true (Some setup) calls = (SetUp setup ∷ BusReset ∷ [], refl, refl)
handed_kept true None calls = (BusReset ∷ [], refl, refl)
handed_kept false (Some setup) calls = (SetUp setup ∷ [], refl, refl)
handed_kept false None calls = ([], refl, refl)

pub asks_kept : (met : Met) (t : TransferState) (calls later : List EpCall) → AsksNow t (handed_on met calls) later → KeptUnless met.reset calls later
asks_kept met t calls later a = kept_further met.reset calls (handed_on met calls) later (handed_kept met.reset met.setup calls) (a.0, a.1, asked_beside a.0 a.2)

same_reset : (reset : Bool) (calls : List EpCall) → behind_reset reset calls ≡ reset_if reset calls
same_reset true calls = refl
same_reset false calls = refl

pub set_up_asks : (met : Met) (setup : List ℕ) (calls : List EpCall) → met.setup ≡ Some setup
    → Asks (handed_on met calls) (SetUp setup ∷ behind_reset met.reset calls)
set_up_asks met setup calls e = ([], ap (λ x. SetUp setup ∷ x) (same_reset met.reset calls) ∙ ap (λ x. set_up_if x (reset_if met.reset calls)) (sym e), tt)

handed_by : (met : Met) (setup : Option (List ℕ)) (reset : Bool) (calls : List EpCall) → met.setup ≡ setup → met.reset ≡ reset
    → handed_on met calls ≡ set_up_if setup (reset_if reset calls)
handed_by met setup reset calls e f = ap (λ x. set_up_if x (reset_if met.reset calls)) e ∙ ap (λ x. set_up_if setup (reset_if x calls)) f

pub reset_asks : (met : Met) (calls : List EpCall) → met.setup ≡ None → met.reset ≡ true → Asks (handed_on met calls) (BusReset ∷ calls)
reset_asks met calls e f = ([], sym (handed_by met None true calls e f), tt)

pub still_asks : (met : Met) (calls later : List EpCall) → met.setup ≡ None → met.reset ≡ false → Asks calls later → Asks (handed_on met calls) later
still_asks met calls later e f a = (a.0, a.1 ∙ ap (λ x. a.0 ++ x) (sym (handed_by met None false calls e f)), a.2)

-- and the buffers answer so
pub looks_as : (t : TransferState) (b mid new : Bus) (calls later : List EpCall) → LooksAs t b mid calls later → Grows mid.seen new.seen → Link t new later → NothingWithheld0 t new
    → Looks b new calls later
looks_as t b mid new calls later x g l n =
    (x.0, x.1, x.4.0, x.2, grows_then x.1.seen mid.seen new.seen x.3 g, x.4.1, x.4.2, λ p. answers t new later x.4.0 p l (n p) x.4.3)
