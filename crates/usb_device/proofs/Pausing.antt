-- How long endpoint 1 waits, and that its reports are served.
use Rattle.std.proofs.lemmas.Grind.{common_steps}
use Rattle.std.proofs.Common.{arith}
use Rattle.std.proofs.Common.{◌≡◌, ◌⊎◌, ◌≤◌, ℕ, zero, suc, ◌+◌, nat_lt, length, Bool, true, false, ◌&&◌, ◌||◌, List, [], ◌∷◌, ◌++◌, Option, Some, None, refl, sym, ap, subst, ◌∙◌, inl, inr}
use Rattle.usb_device.specs.declared.answer.EpAnswer.{EpAnswer}
use Rattle.usb_device.specs.declared.answer.Endpoint1.{Endpoint1}
use Rattle.usb_device.specs.declared.answer.Change.{Change}
use Rattle.usb_device.specs.Requests.{Lent}
use Rattle.usb_device.specs.declared.report_buffers.Course.{Course}
use Rattle.usb_device.specs.declared.report_buffers.Course.TheVariants.{Goes}
use Rattle.usb_device.specs.Calls.{EpCall}
use Rattle.usb_device.specs.Confirmed.{asked_of}
use Rattle.usb_device.specs.Through.{calls_of}
use Rattle.usb_device.specs.Bus1.{Bus1, room_of, sets_protocol}
use Rattle.usb_device.specs.Events.{Event, SetupCame, OutCame, InAsked, PollAsked, ResetCame, SuspendCame, ResumeCame, WakeAsked, StatusSeen, ScanCame}
use Rattle.usb_device.specs.States.{is_empty_packet, has_renewed, setup_in}
use Rattle.usb_device.specs.Steps.{AllAnswered, state_of, renewed_then, change_of}
use Rattle.usb_device.specs.Pauses.{sets_endpoint, begins_pause, pause_by, pause_of, scans_in, seen_if, Ends, ArePolls, IsUnsent}
use Rattle.usb_device.specs.representation.Layered.{endpoint_set}
use Rattle.usb_device.specs.representation.Link1.{ReportState, Link1, Going, KeepsStates, Now1, IsHeld, core}
use Rattle.usb_device.proofs.Stating.{standing, changes_looked}
use Rattle.usb_device.proofs.Layering.{opened_then}

-- two pauses that begin at once are one
pause_twice : (a b : Bool) (left : ℕ) → pause_by a (pause_by b left) ≡ pause_by (a || b) left
pause_twice true true zero = refl
pause_twice true false zero = refl
pause_twice false true zero = refl
pause_twice false false zero = refl
pause_twice true true (suc left) = refl
pause_twice true false (suc left) = refl
pause_twice false true (suc left) = refl
pause_twice false false (suc left) = refl

pub sets_some : (change : Option Change) (state : Endpoint1) → endpoint_set change ≡ Some state → sets_endpoint change ≡ true
sets_some change state h1 = grind (arith, common_steps)

pub sets_none : (change : Option Change) → endpoint_set change ≡ None → sets_endpoint change ≡ false
sets_none change h1 = grind (arith, common_steps)

pub pause_no : (left : ℕ) → pause_by false left ≡ left
pause_no zero = refl
pause_no (suc left) = refl

-- the transfer under way
pub asked_in : (past : List Event) → asked_of (calls_of past) ≡ setup_in past
asked_in [] = refl
asked_in (SetupCame bytes ∷ past) = refl
asked_in (OutCame packet answer ∷ past) = asked_in past
asked_in (InAsked answer ∷ past) = asked_in past
asked_in (PollAsked answer ∷ past) = asked_in past
asked_in (ResetCame ∷ past) = refl
asked_in (SuspendCame ∷ past) = asked_in past
asked_in (ResumeCame ∷ past) = asked_in past
asked_in (StatusSeen ∷ past) = asked_in past
asked_in (ScanCame ∷ past) = asked_in past
asked_in (WakeAsked has answer ∷ past) = asked_in past

-- an answer to an IN token
pub paused_in : (lent : Lent) (all : List Event) (answer : EpAnswer) (change : Option Change) (protocol : Bool) (old mid new : ℕ) → AllAnswered lent (InAsked answer ∷ all)
    → change ≡ change_of (state_of lent all).stage → protocol ≡ sets_protocol (asked_of (calls_of all)) → old ≡ pause_of lent all
    → mid ≡ pause_by (sets_endpoint change) old → new ≡ pause_by (is_empty_packet answer && protocol) mid → new ≡ pause_of lent (InAsked answer ∷ all)
paused_in lent all answer change protocol old mid new a c p o m n =
    let empty = is_empty_packet answer in
    n ∙ (ap (λ x. pause_by (empty && protocol) x) m ∙ (pause_twice (empty && protocol) (sets_endpoint change) old
    ∙ (ap (λ x. pause_by ((empty && x) || sets_endpoint change) old) (p ∙ ap (λ x. sets_protocol x) (asked_in all))
    ∙ (ap (λ x. pause_by ((empty && sets_protocol (setup_in all)) || sets_endpoint x) old) (c ∙ sym (changes_looked lent all answer a))
    ∙ ap (λ x. pause_by (begins_pause lent all answer) x) o))))

-- a pause is 50 scans at most
most_by : (b : Bool) (left : ℕ) → left ≤ 50 → pause_by b left ≤ 50
most_by true zero h = omega arith
most_by false zero h = omega arith
most_by true (suc left) h = h
most_by false (suc left) h = h

pub at_most_50 : (lent : Lent) (past : List Event) → pause_of lent past ≤ 50
at_most_50 lent [] = omega arith
at_most_50 lent (SetupCame bytes ∷ past) = at_most_50 lent past
at_most_50 lent (OutCame packet answer ∷ past) = at_most_50 lent past
at_most_50 lent (InAsked answer ∷ past) = most_by (begins_pause lent past answer) (pause_of lent past) (at_most_50 lent past)
at_most_50 lent (PollAsked answer ∷ past) = at_most_50 lent past
at_most_50 lent (ResetCame ∷ past) = omega arith
at_most_50 lent (SuspendCame ∷ past) = at_most_50 lent past
at_most_50 lent (ResumeCame ∷ past) = at_most_50 lent past
at_most_50 lent (StatusSeen ∷ past) = omega arith
at_most_50 lent (ScanCame ∷ past) = let h = at_most_50 lent past in omega (arith, h)
at_most_50 lent (WakeAsked has answer ∷ past) = at_most_50 lent past

-- it ends in so many
CountsOrEnds : Lent → List Event → List Event → Type 0
CountsOrEnds lent since before = (pause_of lent (since ++ before) + scans_in since ≤ 50) ⊎ Ends lent since before

goes_down : (b : Bool) (left : ℕ) → (left ≡ 0 → ⊥) → pause_by b left ≡ left
goes_down true zero n = absurd (n refl)
goes_down false zero n = refl
goes_down true (suc left) n = refl
goes_down false (suc left) n = refl

none_or_some : (left : ℕ) → (left ≡ 0) ⊎ (left ≡ 0 → ⊥)
none_or_some zero = inl refl
none_or_some (suc left) = inr (λ e. (let x = e in omega (arith, x)))

some_left : (left : ℕ) → (left ≡ 0 → ⊥) → 1 ≤ left
some_left zero n = absurd (n refl)
some_left (suc left) n = omega arith

ends_more : (lent : Lent) (event : Event) (since before : List Event) → Ends lent since before → Ends lent (event ∷ since) before
ends_more lent event since before e = (event ∷ e.0, e.1, ap (λ x. event ∷ x) e.2, e.3)

ends_now : (lent : Lent) (event : Event) (since before : List Event) → pause_of lent (since ++ before) ≡ 0 → Ends lent (event ∷ since) before
ends_now lent event since before e = (event ∷ [], since, refl, e)

counts : (lent : Lent) (event : Event) (since before : List Event) → CountsOrEnds lent since before
    → ((pause_of lent (since ++ before) ≡ 0 → ⊥) → pause_of lent (event ∷ since ++ before) + scans_in (event ∷ since) ≤ pause_of lent (since ++ before) + scans_in since)
    → CountsOrEnds lent (event ∷ since) before
unfolding CountsOrEnds
counts lent event since before (inr e) k = inr (ends_more lent event since before e)
counts lent event since before (inl h) k = elim (none_or_some (pause_of lent (since ++ before))) [
  | inl z ↦ inr (ends_now lent event since before z)
  | inr n ↦ inl (let m = k n in omega (arith, h, m))
]

counted : (lent : Lent) (since before : List Event) → CountsOrEnds lent since before
unfolding CountsOrEnds
counted lent [] before = inl (let h = at_most_50 lent before in omega (arith, h))
counted lent (SetupCame bytes ∷ since) before = counts lent (SetupCame bytes) since before (counted lent since before) (λ n. omega arith)
counted lent (OutCame packet answer ∷ since) before = counts lent (OutCame packet answer) since before (counted lent since before) (λ n. omega arith)
counted lent (InAsked answer ∷ since) before =
    counts lent (InAsked answer) since before (counted lent since before)
    (λ n. (let e = goes_down (begins_pause lent (since ++ before) answer) (pause_of lent (since ++ before)) n in omega (arith, e)))
counted lent (PollAsked answer ∷ since) before = counts lent (PollAsked answer) since before (counted lent since before) (λ n. omega arith)
counted lent (ResetCame ∷ since) before = counts lent ResetCame since before (counted lent since before) (λ n. omega arith)
counted lent (SuspendCame ∷ since) before = counts lent SuspendCame since before (counted lent since before) (λ n. omega arith)
counted lent (ResumeCame ∷ since) before = counts lent ResumeCame since before (counted lent since before) (λ n. omega arith)
counted lent (StatusSeen ∷ since) before = counts lent StatusSeen since before (counted lent since before) (λ n. omega arith)
counted lent (ScanCame ∷ since) before = counts lent ScanCame since before (counted lent since before) (λ n. (let m = some_left (pause_of lent (since ++ before)) n in omega (arith, m)))
counted lent (WakeAsked has answer ∷ since) before = counts lent (WakeAsked has answer) since before (counted lent since before) (λ n. omega arith)

pub ends : (lent : Lent) (since before : List Event) → 50 ≤ scans_in since → Ends lent since before
unfolding CountsOrEnds
ends lent since before s = elim (counted lent since before) [
  | inl h ↦ ([], since, refl, omega (arith, h, s))
  | inr e ↦ e
]

-- packets of the report under way are in the buffers
going_some : (two : Bool) (s : ReportState) (b : Bus1) (calls : List EpCall) → Going (core s) b calls → IsHeld (room_of two) s
    → nat_lt 0 (length b.slots + b.taken) ≡ true
going_some two s b calls h1 h2 = grind (arith, common_steps)

pub goes_some : (two : Bool) (s : ReportState) (b : Bus1) (calls : List EpCall) → s.course ≡ Goes → Link1 s b calls → IsHeld (room_of two) s
    → b.reset ≡ false → nat_lt 0 (length b.slots + b.taken) ≡ true
goes_some two s b calls e h held r =
    let N : Course → Type 0 = λ x. Now1 x (core s) b calls in going_some two s b calls (subst N e (h.current r)) held

-- nothing was sent since endpoint 1 was set
pub unsent_setup : (lent : Lent) (bytes : List ℕ) (past : List Event) (b : Bus1) → IsUnsent lent (SetupCame bytes ∷ past) b
unfolding has_renewed
unsent_setup lent bytes past b e = absurd (let x : false ≡ true = e in cc)

pub unsent_reset : (lent : Lent) (past : List Event) (b : Bus1) → IsUnsent lent (ResetCame ∷ past) b
unfolding has_renewed
unsent_reset lent past b e = absurd (let x : false ≡ true = e in cc)

pub unsent_out : (lent : Lent) (packet : List ℕ) (answer : EpAnswer) (past : List Event) (b new : Bus1) → new ≡ b → IsUnsent lent past b
    → IsUnsent lent (OutCame packet answer ∷ past) new
unfolding has_renewed
unsent_out lent packet answer past b new e u = let P : Bus1 → Type 0 = λ x. IsUnsent lent past x in subst P (sym e) u

pub unsent_in : (lent : Lent) (all : List Event) (answer : EpAnswer) (change : Option Change) (b mid new : Bus1) → AllAnswered lent (InAsked answer ∷ all)
    → change ≡ change_of (state_of lent all).stage → (endpoint_set change ≡ None → mid ≡ b)
    → ((state : Endpoint1) → endpoint_set change ≡ Some state → mid.reset ≡ false → mid.opened ≡ true) → KeepsStates mid new
    → IsUnsent lent all b → IsUnsent lent (InAsked answer ∷ all) new
unfolding state_of
unsent_in lent all answer change b mid new a same n s k u e =
    let old = (state_of lent all).renewed in
    let set : renewed_then old change ≡ true =
    ap (λ x. renewed_then old x) same ∙ (standing lent (InAsked answer ∷ all) a).renewed ∙ e in
    opened_then change old b mid new n s k (λ q. u (sym (standing lent all a.1).renewed ∙ q)) set

pub polls_renewed : (lent : Lent) (asked since : List Event) → ArePolls asked → has_renewed lent (asked ++ since) ≡ has_renewed lent since
unfolding has_renewed
polls_renewed lent [] since a = refl
polls_renewed lent (SetupCame bytes ∷ asked) since a = absurd a
polls_renewed lent (OutCame packet answer ∷ asked) since a = absurd a
polls_renewed lent (InAsked answer ∷ asked) since a = absurd a
polls_renewed lent (PollAsked answer ∷ asked) since a = polls_renewed lent asked since a
polls_renewed lent (ResetCame ∷ asked) since a = absurd a
polls_renewed lent (SuspendCame ∷ asked) since a = absurd a
polls_renewed lent (ResumeCame ∷ asked) since a = absurd a
polls_renewed lent (StatusSeen ∷ asked) since a = absurd a
polls_renewed lent (ScanCame ∷ asked) since a = absurd a
polls_renewed lent (WakeAsked has answer ∷ asked) since a = absurd a

pub seen_renewed : (done : Bool) (lent : Lent) (past : List Event) → has_renewed lent (seen_if done past) ≡ has_renewed lent past
unfolding has_renewed
seen_renewed true lent past = refl
seen_renewed false lent past = refl

pub seen_calls : (done : Bool) (past : List Event) → calls_of (seen_if done past) ≡ calls_of past
seen_calls true past = refl
seen_calls false past = refl
