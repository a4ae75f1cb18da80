-- Representation: a device with its layer, and with endpoint 1 behind buffers, refines the events that it met.
use Rattle.std.specs.Prelude.{◌≡◌, ◌⊎◌, ◌&&◌, Bool, true, false, List, [], ◌∷◌, Option, Some, None}
use Rattle.usb_device.specs.declared.answer.Endpoint1.{Endpoint1}
use Rattle.usb_device.specs.declared.answer.Endpoint1.TheVariants.{Ready}
use Rattle.usb_device.specs.declared.answer.PollAnswer.{PollAnswer}
use Rattle.usb_device.specs.declared.answer.Change.{Change}
use Rattle.usb_device.specs.declared.answer.Change.TheVariants.{Endpoint}
use Rattle.usb_device.specs.Calls.{EpCall}
use Rattle.usb_device.specs.Requests.{Lent}
use Rattle.usb_device.specs.Events.{Event, InAsked, PollAsked, ResetCame, StatusSeen}
use Rattle.usb_device.specs.Steps.{LayerState, state_of, session, change_of}
use Rattle.usb_device.specs.States.{has_renewed}
use Rattle.usb_device.specs.Through.{calls_of}
use Rattle.usb_device.specs.Bus1.{Bus1, Told, Is, HostBegan, no_polls}
use Rattle.usb_device.specs.Bus.{Bus}
use Rattle.usb_device.specs.Pauses.{pause_of}
use Rattle.usb_device.specs.Transfers.{TransferState, NothingWithheld0}
use Rattle.usb_device.specs.representation.Link.{Link}
use Rattle.usb_device.specs.representation.Relation.{Refines}
use Rattle.usb_device.specs.representation.Link1.{ReportState, Link1, InStep, is_under_way}

abbrev pub endpoint_set : Option Change → Option Endpoint1
endpoint_set (Some (Endpoint state)) = Some state
endpoint_set _ = None

abbrev pub with_state : Option Endpoint1 → List Told → List Told
with_state (Some state) states = Is state ∷ states
with_state None states = states

abbrev pub host_began_if : Bool → List Told → List Told
host_began_if true states = HostBegan ∷ states
host_began_if false states = states

-- what the driver is to be told since the last reset, newest first: what the requests set endpoint 1 to, and where the host has the status
-- packet of one
abbrev pub to_tell : Lent → List Event → List Told
to_tell lent [] = []
to_tell lent (ResetCame ∷ before) = []
to_tell lent (InAsked answer ∷ before) = with_state (endpoint_set (change_of (state_of lent before).stage)) (to_tell lent before)
to_tell lent (StatusSeen ∷ before) = host_began_if (has_renewed lent before) (to_tell lent before)
to_tell lent (_ ∷ before) = to_tell lent before

abbrev pub Layered : {E : Type 0} → (List EpCall → E → Type 0) → Lent → List Event → LayerState → E → ReportState → Bus1 → Type 0
Layered refines lent past layer behind reports b =
    Refines lent past layer × refines (session lent past) behind × Link1 reports b (calls_of past) × InStep (to_tell lent past) b
    × (reports.left ≡ pause_of lent past)

abbrev pub is_ready : Endpoint1 → Bool
is_ready Ready = true
is_ready _ = false

-- a report waits for the host: one is under way, and endpoint 1 is ready
abbrev pub report_waits : LayerState → ReportState → Bool
report_waits layer reports = is_ready layer.endpoint && is_under_way reports.course

-- these events, or one poll more
abbrev pub PolledOnce : List Event → List Event → Type 0
PolledOnce past later = (later ≡ past) ⊎ ((answer : PollAnswer) × (later ≡ PollAsked answer ∷ past))

-- the whole: endpoint 0 behind its buffers stands before a device that is layered so
abbrev pub Runs : {E : Type 0} → (List EpCall → E → Type 0) → TransferState → Bus → List EpCall → Lent → List Event → LayerState → E → ReportState → Bus1 → Type 0
Runs refines t b calls lent past layer behind reports b1 =
    Link t b calls × NothingWithheld0 t b × Layered refines lent past layer behind reports b1 × (no_polls (calls_of past) ≡ no_polls calls)
