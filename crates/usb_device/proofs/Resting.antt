-- What the buffers of endpoint 0 hold, while anything happens on the bus.
use Rattle.std.proofs.lemmas.Grind.{common_steps}
use Rattle.std.proofs.Common.{arith}
use Rattle.std.proofs.Common.{◌≡◌, ℕ, Bool, true, false, ◌||◌, List, [], ◌∷◌, Some, None, refl, sym, ap, subst, ◌∙◌, inl, inr}
use Rattle.usb_device.specs.declared.answer.EpAnswer.{EpAnswer}
use Rattle.usb_device.specs.Bus.{Bus, InMode, Sends, Stalls, OutMode, Takes, StallsOut, Happens, sets_up, takes_in, loses_ack, brings_out, stalls, resets, Goes, looked, is_pending, with_input, with_output, unless_pending}
use Rattle.usb_device.specs.Transfers.{TransferState, Idle, Refused, Over, Reads, ReadDue, Sent, Closing, Closed, Opening, Writes, Keeps, Asking, Due, Status, Done, IsOpen, Rests}
use Rattle.usb_device.specs.representation.Link.{Ready, IsBegun, ended, on_taken}

or_true : (x : Bool) → (x || true) ≡ false → ⊥
or_true x h1 = grind (arith, common_steps)

true_false : true ≡ false → ⊥
true_false e = cc

-- what is not pending was not pending
back : (b next : Bus) → Happens b next → is_pending next.met ≡ false → is_pending b.met ≡ false
back b next h1 h2 = grind (arith, common_steps)

-- what each happening keeps, all of them keep
carry : (P : Bus → Type 0) → ((b next : Bus) → Happens b next → is_pending next.met ≡ false → P b → P next) → (steps : List Bus) (b next : Bus) → Goes steps b next
    → is_pending next.met ≡ false → (is_pending b.met ≡ false → P b) → P next
carry P k [] b next e p h = subst P (sym e) (h (sym (ap (λ (x : Bus). is_pending x.met) e) ∙ p))
carry P k (mid ∷ rest) b next g p h = carry P k rest mid next g.1 p (λ q. k b mid g.0 q (h (back b mid g.0 q)))

open1 : (b next : Bus) → Happens b next → is_pending next.met ≡ false → IsOpen b → IsOpen next
open1 b next (sets_up bytes e) p o = absurd (or_true b.met.reset (sym (ap (λ (x : Bus). is_pending x.met) e) ∙ p))
open1 b next (takes_in packet has i e) p o = subst IsOpen (sym e) o
open1 b next (loses_ack packet has i e) p o = subst IsOpen (sym e) o
open1 b next (brings_out packet t e) p o = subst IsOpen (sym e) (inr (packet, refl))
open1 b next (stalls e) p o = subst IsOpen (sym e) o
open1 b next (resets e) p o = absurd (true_false (sym (ap (λ (x : Bus). is_pending x.met) e) ∙ p))

StallsIn : Bus → Type 0
StallsIn b = b.input ≡ Stalls

stalls1 : (b next : Bus) → Happens b next → is_pending next.met ≡ false → StallsIn b → StallsIn next
unfolding StallsIn
stalls1 b next h1 h2 h3 = grind (arith, common_steps)

StallsBoth : Bus → Type 0
StallsBoth b = (b.input ≡ Stalls) × (b.output ≡ StallsOut)

both1 : (b next : Bus) → Happens b next → is_pending next.met ≡ false → StallsBoth b → StallsBoth next
unfolding StallsBoth
both1 b next h1 h2 h3 = grind (arith, common_steps)

-- what rests keeps resting
rests1 : (t : TransferState) (b next : Bus) → Happens b next → is_pending next.met ≡ false → Rests t b → Rests t next
unfolding StallsBoth
rests1 Idle b next s p r = r
rests1 Over b next s p r = both1 b next s p r
rests1 Refused b next s p r = absurd r
rests1 (Reads left) b next s p r = open1 b next s p r
rests1 (ReadDue left) b next s p r = r
rests1 Sent b next s p r = open1 b next s p r
rests1 Closing b next s p r = absurd r
rests1 Closed b next s p r = open1 b next s p r
rests1 Opening b next s p r = absurd r
rests1 Writes b next s p r = open1 b next s p r
rests1 (Keeps packet) b next s p r = r
rests1 Asking b next s p r = absurd r
rests1 Due b next s p r = open1 b next s p r
rests1 Status b next s p r = open1 b next s p r
rests1 Done b next s p r = open1 b next s p r

pub rest_goes : (steps : List Bus) (t : TransferState) (b next : Bus) → Goes steps b next → (is_pending b.met ≡ false → Rests t b) → is_pending next.met ≡ false → Rests t next
rest_goes steps t b next g h p = let P : Bus → Type 0 = λ x. Rests t x in carry P (rests1 t) steps b next g p h

-- a command to the controller, where nothing is pending behind it
reported_by : (pending : Bool) (mid other new : Bus) → is_pending mid.met ≡ pending → new ≡ unless_pending pending mid other → is_pending new.met ≡ false
    → (is_pending mid.met ≡ false) × (new ≡ other)
reported_by pending mid other new h1 h2 h3 = grind (arith, common_steps)

reported_out : (mid new : Bus) (mode : OutMode) → new ≡ with_output mid mode → is_pending new.met ≡ false
    → (is_pending mid.met ≡ false) × (new ≡ record { seen = mid.seen; input = mid.input; output = mode; met = mid.met })
reported_out mid new mode e p = reported_by (is_pending mid.met) mid (record { seen = mid.seen; input = mid.input; output = mode; met = mid.met }) new refl e p

reported_in : (mid new : Bus) (mode : InMode) → new ≡ with_input mid mode → is_pending new.met ≡ false
    → (is_pending mid.met ≡ false) × (new ≡ record { seen = mid.seen; input = mode; output = mid.output; met = mid.met })
reported_in mid new mode e p = reported_by (is_pending mid.met) mid (record { seen = mid.seen; input = mode; output = mid.output; met = mid.met }) new refl e p

pub opens : (mid new : Bus) → new ≡ with_output mid Takes → is_pending new.met ≡ false → IsOpen new
opens mid new e p = subst IsOpen (sym (reported_out mid new Takes e p).1) (inl refl)

-- a packet is handed over, and OUT stays open
pub hands : (steps : List Bus) (b mid new : Bus) (packet : List ℕ) → Goes steps b mid → new ≡ with_input mid (Sends packet false)
    → (is_pending b.met ≡ false → IsOpen b) → is_pending new.met ≡ false → IsOpen new
hands steps b mid new packet g e o p =
    let t = reported_in mid new (Sends packet false) e p in
    subst IsOpen (sym t.1) (carry IsOpen open1 steps b mid g t.0 o)

pub stalls_reported : (mid middle : Bus) (more : List Bus) (end new : Bus) → middle ≡ with_input mid Stalls → Goes more middle end → new ≡ with_output end StallsOut
    → is_pending new.met ≡ false → (new.input ≡ Stalls) × (new.output ≡ StallsOut)
unfolding StallsIn
stalls_reported mid middle more end new e g f p =
    let t = reported_out end new StallsOut f p in
    let i = carry StallsIn stalls1 more middle end g t.0 (λ q. ap (λ (x : Bus). x.input) (reported_in mid middle Stalls e q).1) in
    (ap (λ (x : Bus). x.input) t.1 ∙ i, ap (λ (x : Bus). x.output) t.1)

pub begun_ready : (t : TransferState) (b : Bus) → IsBegun t → Ready t b
begun_ready t b h1 = grind (arith, common_steps)

-- a read that was ended
pub ended_ready : (b : Bus) (answer : EpAnswer) → Ready (ended answer) b
ended_ready b answer = grind (arith, common_steps)

-- what was looked at rests
open_looked : (b : Bus) → b.met.out ≡ None → IsOpen b → IsOpen (looked b)
open_looked b o (inl e) = inl e
open_looked b o (inr e) = absurd (let x : Some e.0 ≡ None = sym e.1 ∙ o in cc)

pub taken_ready : (t : TransferState) (b : Bus) → b.met.out ≡ None → Rests t b → Ready (on_taken t) (looked b)
taken_ready t b o h1 = grind (arith, common_steps, open_looked)
