-- What a device with its layer confirmed, the device behind confirmed.
use Rattle.std.proofs.lemmas.Grind.{common_steps}
use Rattle.std.proofs.Common.{arith}
use Rattle.std.proofs.Common.{◌≡◌, ℕ, List, [], ◌∷◌, Option, Some, None, refl, ◌∙◌, inl, inr}
use Rattle.usb_device.specs.declared.answer.EpAnswer.{EpAnswer}
use Rattle.usb_device.specs.declared.answer.Endpoint1.{Endpoint1}
use Rattle.usb_device.specs.Calls.{EpCall, SetUp, Out, In, Polled, BusReset}
use Rattle.usb_device.specs.Requests.{Lent}
use Rattle.usb_device.specs.Events.{Event, SetupCame, OutCame, InAsked, PollAsked, ResetCame, SuspendCame, ResumeCame, WakeAsked, StatusSeen, ScanCame}
use Rattle.usb_device.specs.Steps.{Stage, Theirs, Sending, Status, Over, state_of, session, AllAnswered, InAnswer, after_in, after_out, begun, call_if_theirs, call_if_ready, polled_of}
use Rattle.usb_device.specs.Through.{calls_of}
use Rattle.usb_device.specs.Bus.{Seen}
use Rattle.usb_device.specs.Confirmed.{asked_of, taken_of, TakesOnly, ConfirmedBefore, confirmation}
use Rattle.usb_device.proofs.Linked.{takes_as}

-- of the device layer
Aligned : Stage → List EpCall → List EpCall → Type 0
Aligned Theirs behind calls = taken_of behind ≡ taken_of calls
Aligned (Sending bytes asked sent) behind calls = taken_of calls ≡ None
Aligned (Status change) behind calls = taken_of calls ≡ None
Aligned Over behind calls = Unit {0}

at_setup : (stage : Stage) (bytes : List ℕ) (behind calls : List EpCall) → Aligned stage (SetUp bytes ∷ behind) (SetUp bytes ∷ calls)
unfolding Aligned
at_setup stage bytes behind calls = grind (arith, common_steps)

at_out : (stage : Stage) (packet : List ℕ) (answer : EpAnswer) (behind calls : List EpCall) → Aligned stage behind calls
    → Aligned (after_out stage) (call_if_theirs stage (Out packet answer) behind) (Out packet answer ∷ calls)
unfolding Aligned
at_out stage packet answer behind calls h1 = grind (arith, common_steps)

at_in : (stage : Stage) (answer : EpAnswer) (behind calls : List EpCall) → Aligned stage behind calls
    → Aligned (after_in stage answer) (call_if_theirs stage (In answer) behind) (In answer ∷ calls)
unfolding Aligned
at_in stage answer behind calls h1 = grind (arith, common_steps)

at_poll : (stage : Stage) (endpoint : Endpoint1) (answer : Option (List ℕ)) (behind calls : List EpCall) → Aligned stage behind calls
    → Aligned stage (call_if_ready endpoint (Polled answer) behind) (Polled answer ∷ calls)
unfolding Aligned
at_poll stage endpoint answer behind calls h1 = grind (arith, common_steps)

at_reset : (behind calls : List EpCall) → Aligned Theirs (BusReset ∷ behind) (BusReset ∷ calls)
unfolding Aligned
at_reset behind calls = refl

at_start : Aligned Theirs [] []
unfolding Aligned
at_start = refl

aligned : (lent : Lent) (past : List Event) → Aligned (state_of lent past).stage (session lent past) (calls_of past)
unfolding state_of session
aligned lent [] = at_start
aligned lent (SetupCame bytes ∷ past) = at_setup (begun (state_of lent past).lent (state_of lent past).endpoint (state_of lent past).wakeup bytes) bytes (session lent past) (calls_of past)
aligned lent (OutCame packet answer ∷ past) = at_out (state_of lent past).stage packet answer (session lent past) (calls_of past) (aligned lent past)
aligned lent (InAsked answer ∷ past) = at_in (state_of lent past).stage answer (session lent past) (calls_of past) (aligned lent past)
aligned lent (PollAsked answer ∷ past) = at_poll (state_of lent past).stage (state_of lent past).endpoint (polled_of answer) (session lent past) (calls_of past) (aligned lent past)
aligned lent (ResetCame ∷ past) = at_reset (session lent past) (calls_of past)
aligned lent (SuspendCame ∷ past) = aligned lent past
aligned lent (ResumeCame ∷ past) = aligned lent past
aligned lent (StatusSeen ∷ past) = aligned lent past
aligned lent (ScanCame ∷ past) = aligned lent past
aligned lent (WakeAsked has_report answer ∷ past) = aligned lent past

asked_if_theirs : (stage : Stage) (call : EpCall) (behind : List EpCall) → asked_of (call ∷ behind) ≡ asked_of behind → asked_of (call_if_theirs stage call behind) ≡ asked_of behind
asked_if_theirs stage call behind h1 = grind (arith, common_steps)

asked_if_ready : (endpoint : Endpoint1) (answer : Option (List ℕ)) (behind : List EpCall) → asked_of (call_if_ready endpoint (Polled answer) behind) ≡ asked_of behind
asked_if_ready endpoint answer behind = grind (arith, common_steps)

asked_same : (lent : Lent) (past : List Event) → asked_of (session lent past) ≡ asked_of (calls_of past)
unfolding session
asked_same lent [] = refl
asked_same lent (SetupCame bytes ∷ past) = refl
asked_same lent (OutCame packet answer ∷ past) = asked_if_theirs (state_of lent past).stage (Out packet answer) (session lent past) refl ∙ asked_same lent past
asked_same lent (InAsked answer ∷ past) = asked_if_theirs (state_of lent past).stage (In answer) (session lent past) refl ∙ asked_same lent past
asked_same lent (PollAsked answer ∷ past) = asked_if_ready (state_of lent past).endpoint (polled_of answer) (session lent past) ∙ asked_same lent past
asked_same lent (ResetCame ∷ past) = refl
asked_same lent (SuspendCame ∷ past) = asked_same lent past
asked_same lent (ResumeCame ∷ past) = asked_same lent past
asked_same lent (StatusSeen ∷ past) = asked_same lent past
asked_same lent (ScanCame ∷ past) = asked_same lent past
asked_same lent (WakeAsked has_report answer ∷ past) = asked_same lent past

grows_theirs : (stage : Stage) (call : EpCall) (behind : List EpCall) (sent : List Seen) (s d : List ℕ) → TakesOnly sent behind call → ConfirmedBefore sent s d behind
    → ConfirmedBefore sent s d (call_if_theirs stage call behind)
grows_theirs stage call behind sent s d h1 h2 = grind (arith, common_steps)

grows_ready : (endpoint : Endpoint1) (answer : Option (List ℕ)) (behind : List EpCall) (sent : List Seen) (s d : List ℕ) → ConfirmedBefore sent s d behind
    → ConfirmedBefore sent s d (call_if_ready endpoint (Polled answer) behind)
grows_ready endpoint answer behind sent s d h1 = grind (arith, common_steps)

-- the empty packet of a write is that of the device behind
confirms : (stage : Stage) (answer : EpAnswer) (behind calls : List EpCall) (sent : List Seen) (s d : List ℕ) → Aligned stage behind calls → InAnswer stage answer
    → asked_of behind ≡ asked_of calls → In answer ≡ confirmation → asked_of calls ≡ Some s → taken_of calls ≡ Some d
    → ConfirmedBefore sent s d (call_if_theirs stage (In answer) behind)
unfolding Aligned
confirms stage answer behind calls sent s d h1 h2 h3 h4 h5 h6 = grind (arith, common_steps)

pub behind_confirmed : (lent : Lent) (past : List Event) (sent : List Seen) (s d : List ℕ) → AllAnswered lent past → ConfirmedBefore sent s d (calls_of past)
    → ConfirmedBefore sent s d (session lent past)
unfolding session
behind_confirmed lent [] sent s d all w = w
behind_confirmed lent (SetupCame bytes ∷ past) sent s d all (inl (e, es, ed)) = cc
behind_confirmed lent (SetupCame bytes ∷ past) sent s d all (inr w) = inr (tt, behind_confirmed lent past sent s d all.1 w.1)
behind_confirmed lent (OutCame packet answer ∷ past) sent s d all (inl (e, es, ed)) = cc
behind_confirmed lent (OutCame packet answer ∷ past) sent s d all (inr w) =
    grows_theirs (state_of lent past).stage (Out packet answer) (session lent past) sent s d (takes_as sent packet answer (session lent past) (calls_of past) (asked_same lent past) w.0)
    (behind_confirmed lent past sent s d all.1 w.1)
behind_confirmed lent (InAsked answer ∷ past) sent s d all (inl (e, es, ed)) =
    confirms (state_of lent past).stage answer (session lent past) (calls_of past) sent s d (aligned lent past) all.0 (asked_same lent past) e es ed
behind_confirmed lent (InAsked answer ∷ past) sent s d all (inr w) =
    grows_theirs (state_of lent past).stage (In answer) (session lent past) sent s d tt (behind_confirmed lent past sent s d all.1 w.1)
behind_confirmed lent (PollAsked answer ∷ past) sent s d all (inl (e, es, ed)) = cc
behind_confirmed lent (PollAsked answer ∷ past) sent s d all (inr w) =
    grows_ready (state_of lent past).endpoint (polled_of answer) (session lent past) sent s d (behind_confirmed lent past sent s d all.1 w.1)
behind_confirmed lent (ResetCame ∷ past) sent s d all (inl (e, es, ed)) = cc
behind_confirmed lent (ResetCame ∷ past) sent s d all (inr w) = inr (tt, behind_confirmed lent past sent s d all.1 w.1)
behind_confirmed lent (SuspendCame ∷ past) sent s d all w = behind_confirmed lent past sent s d all.1 w
behind_confirmed lent (ResumeCame ∷ past) sent s d all w = behind_confirmed lent past sent s d all.1 w
behind_confirmed lent (StatusSeen ∷ past) sent s d all w = behind_confirmed lent past sent s d all.1 w
behind_confirmed lent (ScanCame ∷ past) sent s d all w = behind_confirmed lent past sent s d all.1 w
behind_confirmed lent (WakeAsked has_report answer ∷ past) sent s d all w = behind_confirmed lent past sent s d all.1 w
