-- Trusted where this crate is called: what each event does to the USB device layer, and what it is answered.
use Rattle.std.specs.Prelude.{◌≡◌, ℕ, ◌+◌, ◌==◌, ◌&&◌, ◌||◌, not, Bool, true, false, List, [], ◌∷◌, if◌then◌else◌, Option, Some, None}
use Rattle.usb_device.specs.declared.answer.EpAnswer.{EpAnswer}
use Rattle.usb_device.specs.declared.answer.EpAnswer.TheVariants.{Ack, Packet, Stall}
use Rattle.usb_device.specs.declared.answer.PollAnswer.{PollAnswer}
use Rattle.usb_device.specs.declared.answer.PollAnswer.TheVariants as Polls
use Rattle.usb_device.specs.declared.answer.Endpoint1.{Endpoint1}
use Rattle.usb_device.specs.declared.answer.Endpoint1.TheVariants.{Off, Ready, Halted}
use Rattle.usb_device.specs.declared.answer.Change.{Change}
use Rattle.usb_device.specs.declared.answer.Change.TheVariants.{Address, Endpoint, Wakeup}
use Rattle.usb_device.specs.Packets.{packet_at}
use Rattle.usb_device.specs.Calls.{EpCall, SetUp, Out, In, Polled, BusReset}
use Rattle.usb_device.specs.Requests.{Lent, Served, Reads, Sets, request_of, served}
use Rattle.usb_device.specs.Events.{Event, SetupCame, OutCame, InAsked, PollAsked, ResetCame, SuspendCame, ResumeCame, WakeAsked, StatusSeen, ScanCame}

-- where the transfer on endpoint 0 stands (section 8.5.3)
pub data Stage : Type 0 where
  -- it is the transfer of the device behind
  Theirs : Stage
  -- a read of these bytes, of which so many were asked for, and so many packets were sent
  Sending : List ℕ → ℕ → ℕ → Stage
  -- the empty packet of the status stage is due, and brings this change
  Status : Option Change → Stage
  -- it is over or was stalled
  Over : Stage

-- the descriptors that are lent, what endpoint 1 is, where the transfer stands, what its status packet brought: an address, and
-- whether endpoint 1 begins anew; whether remote wakeup is enabled, the bus is suspended, and was woken since
pub record LayerState : Type 0 where
  pub lent : Lent
  pub endpoint : Endpoint1
  pub stage : Stage
  pub due : Option ℕ
  pub renewed : Bool
  pub wakeup : Bool
  pub suspended : Bool
  pub woken : Bool

abbrev pub first_stage : Option Served → ℕ → Stage
first_stage None asked = Theirs
first_stage (Some (Reads bytes)) asked = if asked == 0 then Status None else Sending bytes asked 0
first_stage (Some (Sets change)) asked = Status (Some change)

abbrev pub begun : Lent → Endpoint1 → Bool → List ℕ → Stage
begun lent state wakeup setup = first_stage (served lent state wakeup (request_of setup)) (request_of setup).size

abbrev pub packet_or_stall : Option (List ℕ) → EpAnswer
packet_or_stall (Some packet) = Packet (record { items = packet })
packet_or_stall None = Stall

-- the answer to an IN token; that of the device behind is its own
abbrev pub InAnswer : Stage → EpAnswer → Type 0
InAnswer Theirs answer = Unit {0}
InAnswer (Sending bytes asked sent) answer = answer ≡ packet_or_stall (packet_at bytes asked sent)
InAnswer (Status change) answer = answer ≡ Packet (record { items = [] })
InAnswer Over answer = answer ≡ Stall

abbrev pub change_of : Stage → Option Change
change_of (Status change) = change
change_of _ = None

abbrev pub after_in : Stage → EpAnswer → Stage
after_in Theirs answer = Theirs
after_in (Sending bytes asked sent) Stall = Over
after_in (Sending bytes asked sent) _ = Sending bytes asked (sent + 1)
after_in _ answer = Over

abbrev pub endpoint_then : Endpoint1 → Option Change → Endpoint1
endpoint_then state (Some (Endpoint next)) = next
endpoint_then state _ = state

-- the address of the transfer's status packet
abbrev pub due_then : Option ℕ → Option Change → Option ℕ
due_then due (Some (Address address)) = Some address
due_then due _ = due

-- whether the transfer's status packet set endpoint 1
abbrev pub renewed_then : Bool → Option Change → Bool
renewed_then renewed (Some (Endpoint state)) = true
renewed_then renewed _ = renewed

abbrev pub wakeup_then : Bool → Option Change → Bool
wakeup_then wakeup (Some (Wakeup next)) = next
wakeup_then wakeup _ = wakeup

-- an empty OUT packet ends a read
abbrev pub closing : List ℕ → EpAnswer
closing [] = Ack
closing (_ ∷ _) = Stall

abbrev pub OutAnswer : Stage → List ℕ → EpAnswer → Type 0
OutAnswer Theirs packet answer = Unit {0}
OutAnswer (Sending bytes asked sent) packet answer = answer ≡ closing packet
OutAnswer _ packet answer = answer ≡ Stall

abbrev pub after_out : Stage → Stage
after_out Theirs = Theirs
after_out _ = Over

-- a poll: nothing where endpoint 1 is off, STALL where it is halted, else what the device behind has
abbrev pub PollAnswers : Endpoint1 → PollAnswer → Type 0
PollAnswers Off answer = answer ≡ Polls.Nothing
PollAnswers Halted answer = answer ≡ Polls.Stall
PollAnswers Ready answer = Unit {0}

-- where it stands at first, and behind a reset of the bus
abbrev pub start : Lent → LayerState
start lent = record { lent = lent; endpoint = Off; stage = Theirs; due = None; renewed = false; wakeup = false; suspended = false; woken = false }

-- what an event does to the device layer
abbrev pub state_then : LayerState → Event → LayerState
state_then now (SetupCame bytes) = record { lent = now.lent; endpoint = now.endpoint; stage = begun now.lent now.endpoint now.wakeup bytes; due = None; renewed = false; wakeup = now.wakeup; suspended = false; woken = now.woken }
state_then now (OutCame packet answer) = record { lent = now.lent; endpoint = now.endpoint; stage = after_out now.stage; due = now.due; renewed = now.renewed; wakeup = now.wakeup; suspended = now.suspended; woken = now.woken }
state_then now (InAsked answer) = record {
  lent = now.lent;
  endpoint = endpoint_then now.endpoint (change_of now.stage);
  stage = after_in now.stage answer;
  due = due_then now.due (change_of now.stage);
  renewed = renewed_then now.renewed (change_of now.stage);
  wakeup = wakeup_then now.wakeup (change_of now.stage);
  suspended = now.suspended;
  woken = now.woken;
}
state_then now (PollAsked answer) = now
state_then now ResetCame = start now.lent
state_then now SuspendCame = record now { suspended = true; woken = false }
state_then now ResumeCame = record now { suspended = false }
state_then now StatusSeen = now
state_then now ScanCame = now
state_then now (WakeAsked has_report answer) = record now { woken = now.woken || answer }

-- where the device layer stands after these events, newest first
unfoldable pub state_of : Lent → List Event → LayerState
state_of lent [] = start lent
state_of lent (event ∷ past) = state_then (state_of lent past) event

-- a remote wakeup is to be signalled: the host has enabled it, and a report waits for it while the bus is suspended; once
abbrev pub wakes : LayerState → Bool → Bool
wakes now has_report = now.suspended && not now.woken && now.wakeup && has_report

-- the answer of an event is the standard's
abbrev pub IsAnswered : LayerState → Event → Type 0
IsAnswered now (OutCame packet answer) = OutAnswer now.stage packet answer
IsAnswered now (InAsked answer) = InAnswer now.stage answer
IsAnswered now (PollAsked answer) = PollAnswers now.endpoint answer
IsAnswered now (WakeAsked has_report answer) = answer ≡ wakes now has_report
IsAnswered now _ = Unit {0}

abbrev pub AllAnswered : Lent → List Event → Type 0
AllAnswered lent [] = Unit {0}
AllAnswered lent (event ∷ past) = IsAnswered (state_of lent past) event × AllAnswered lent past

-- what a poll was answered, as the device behind answered it
abbrev pub polled_of : PollAnswer → Option (List ℕ)
polled_of (Polls.Data report) = Some report.items
polled_of _ = None

-- a call of the device behind, where the transfer is its own
abbrev pub call_if_theirs : Stage → EpCall → List EpCall → List EpCall
call_if_theirs Theirs call past = call ∷ past
call_if_theirs _ call past = past

-- a poll of the device behind, where endpoint 1 is ready
abbrev pub call_if_ready : Endpoint1 → EpCall → List EpCall → List EpCall
call_if_ready Ready call past = call ∷ past
call_if_ready _ call past = past

-- the calls of the device behind that an event makes, on those before
abbrev pub calls_then : LayerState → Event → List EpCall → List EpCall
calls_then now (SetupCame bytes) calls = SetUp bytes ∷ calls
calls_then now (OutCame packet answer) calls = call_if_theirs now.stage (Out packet answer) calls
calls_then now (InAsked answer) calls = call_if_theirs now.stage (In answer) calls
calls_then now (PollAsked answer) calls = call_if_ready now.endpoint (Polled (polled_of answer)) calls
calls_then now ResetCame calls = BusReset ∷ calls
calls_then now _ calls = calls

-- the session of the device behind
unfoldable pub session : Lent → List Event → List EpCall
session lent [] = []
session lent (event ∷ past) = calls_then (state_of lent past) event (session lent past)
