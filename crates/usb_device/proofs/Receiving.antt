-- The packets of a whole control read.
use Rattle.std.proofs.lemmas.Grind.{common_steps}
use Rattle.std.proofs.Common.{◌≡◌, ◌≢◌, ◌⊎◌, ◌<◌, ◌≤◌, ◌+◌, ◌*◌, ℕ, length, true, false, List, [], ◌∷◌, ◌++◌, Result, Ok, Err, sym, ap, subst, ◌∙◌, append_assoc, length-append, arith}
use Rattle.std.specs.Prelude.{IsOk, OnOk, MatchResult}
use Rattle.usb_device.specs.declared.answer.EpAnswer.{EpAnswer}
use Rattle.usb_device.specs.declared.answer.EpAnswer.TheVariants.{Ack, Stall}
use Rattle.usb_device.specs.declared.whole_transfers.TransferError.{TransferError}
use Rattle.usb_device.specs.declared.whole_transfers.TransferError.TheVariants.{Refused, Busy, Unfinished}
use Rattle.usb_device.specs.Calls.{EpCall, SetUp, Out}
use Rattle.usb_device.specs.Requests.{word_at}
use Rattle.usb_device.specs.WholeReads.{joined, is_last, IsNoPacket, IsRead, no_packet, not_closed, FailsToRead}
use Rattle.usb_device.specs.representation.WholeReads.{Receives, NotReceived}

pub last_short : (asked : ℕ) (packet : List ℕ) (before : List (List ℕ)) → length packet < 8 → is_last asked packet before ≡ true
last_short asked packet before l = grind (arith, l)

pub last_all : (asked : ℕ) (packet : List ℕ) (before : List (List ℕ)) → asked ≤ length (joined before ++ packet) → is_last asked packet before ≡ true
last_all asked packet before l = grind (arith, l)

pub not_last : (asked : ℕ) (packet : List ℕ) (before : List (List ℕ)) → 8 ≤ length packet → length (joined before ++ packet) < asked → is_last asked packet before ≡ false
not_last asked packet before l m = grind (arith, l, m)

pub is_no_packet : (answer : EpAnswer) → (answer ≡ Ack) ⊎ (answer ≡ Stall) → IsNoPacket answer
is_no_packet answer h1 = grind (arith, common_steps)

pub on_ok : {A E P : Type 0} (r : Result A E) → IsOk r → OnOk r P → P
on_ok r h1 h2 = grind (arith, common_steps)

-- a packet more has room behind those before it
pub extended : {A E : Type 0} (r : Result A E) (old packet new : List ℕ) (count : ℕ) → (length old + length packet ≤ 104 → IsOk r) → OnOk r (new ≡ old ++ packet) → length old ≤ 8 * count → count < 13 → length packet ≤ 8
    → (new ≡ old ++ packet) × (length new ≤ 8 * (count + 1))
extended r old packet new count v o f c l =
    let e : new ≡ old ++ packet = on_ok r (v (omega (arith, f, c, l))) o in
    (e, omega (arith, ap length e, length-append old packet, f, l))

-- ---- the whole

with_setup : (setup got rest : List EpCall) → got ≡ rest → got ++ setup ≡ rest ++ setup
with_setup setup got rest e = ap (λ l. l ++ setup) e

is_read : (setup bytes : List ℕ) (answer : EpAnswer) (got : List EpCall) → Receives (word_at setup 6) bytes got → answer ≡ Ack → IsRead setup bytes (Out [] answer ∷ got ++ (SetUp setup ∷ []))
is_read setup bytes answer got r a =
    record { packets = r.0; whole = r.1; since_is = ap (λ x. Out [] x ∷ got ++ (SetUp setup ∷ [])) a ∙ ap (λ l. Out [] Ack ∷ l) (with_setup (SetUp setup ∷ []) got _ r.2) }

pub closed : {B : Type 0} (items : B → List ℕ) (setup : List ℕ) (bytes : B) (result : Result B TransferError) (answer : EpAnswer) (got : List EpCall) → Receives (word_at setup 6) (items bytes) got
    → MatchResult result (λ given. (given ≡ bytes) × (answer ≡ Ack)) (λ e. (e ≡ Refused) × (answer ≢ Ack))
    → MatchResult result (λ given. IsRead setup (items given) (Out [] answer ∷ got ++ (SetUp setup ∷ []))) (λ e. FailsToRead e setup (Out [] answer ∷ got ++ (SetUp setup ∷ [])))
closed items setup bytes (Ok given) answer got r m =
    let P : List ℕ → Type 0 = λ x. IsRead setup x (Out [] answer ∷ got ++ (SetUp setup ∷ [])) in
    subst P (ap items (sym m.0)) (is_read setup (items bytes) answer got r m.1)
closed items setup bytes (Err e) answer got r m =
    let P : TransferError → Type 0 = λ x. FailsToRead x setup (Out [] answer ∷ got ++ (SetUp setup ∷ [])) in
    subst P (sym m.0) (not_closed answer (items bytes) r.0 m.1 r.1 (ap (λ l. Out [] answer ∷ l) (with_setup (SetUp setup ∷ []) got _ r.2)))

pub not_read : (e : TransferError) (setup : List ℕ) (got : List EpCall) → NotReceived e (word_at setup 6) got → FailsToRead e setup (got ++ (SetUp setup ∷ []))
not_read Refused setup got n = no_packet n.0 n.1 n.2 n.3 (with_setup (SetUp setup ∷ []) got _ n.4)
not_read Busy setup got n = (n.0, n.1, with_setup (SetUp setup ∷ []) got _ n.2)
not_read Unfinished setup got n = (n.0, n.1, n.2, with_setup (SetUp setup ∷ []) got _ n.3)

pub behind : (P : List EpCall → Type 0) (got past : List EpCall) (setup : List ℕ) → P (got ++ SetUp setup ∷ past) → P ((got ++ (SetUp setup ∷ [])) ++ past)
behind P got past setup p = subst P (sym (append_assoc got (SetUp setup ∷ []) past)) p
