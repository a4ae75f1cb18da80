-- Trusted: the states of the device (USB 2.0 section 9.1.1), by looking back over the events.
use Rattle.std.specs.Prelude.{ℕ, ◌==◌, ◌&&◌, ◌||◌, not, Bool, true, false, List, [], ◌∷◌, length, if◌then◌else◌, Option, Some, None}
use Rattle.usb_device.specs.declared.answer.EpAnswer.{EpAnswer}
use Rattle.usb_device.specs.declared.answer.EpAnswer.TheVariants.{Packet}
use Rattle.usb_device.specs.declared.answer.Endpoint1.{Endpoint1}
use Rattle.usb_device.specs.declared.answer.Endpoint1.TheVariants.{Off}
use Rattle.usb_device.specs.declared.answer.Change.{Change}
use Rattle.usb_device.specs.declared.answer.Change.TheVariants.{Address}
use Rattle.usb_device.specs.Requests.{Lent, Served, Sets, request_of, served, is_configured}
use Rattle.usb_device.specs.Events.{Event, SetupCame, InAsked, ResetCame, SuspendCame, ResumeCame, WakeAsked}
use Rattle.usb_device.specs.Steps.{endpoint_then, renewed_then, wakeup_then}

-- the SETUP packet of the transfer under way
abbrev pub setup_in : List Event → Option (List ℕ)
setup_in [] = None
setup_in (SetupCame bytes ∷ before) = Some bytes
setup_in (ResetCame ∷ before) = None
setup_in (_ ∷ before) = setup_in before

abbrev pub is_empty_packet : EpAnswer → Bool
is_empty_packet (Packet packet) = length packet.items == 0
is_empty_packet _ = false

-- what a request sets, by the table of requests
abbrev pub change_in : Option Served → Option Change
change_in (Some (Sets change)) = Some change
change_in _ = None

-- a request is completed where an IN token of its transfer is answered by the empty packet. What it sets does not depend on whether
-- remote wakeup is enabled.
abbrev pub completed : Lent → Bool → Option (List ℕ) → Endpoint1 → Option Change
completed lent true (Some setup) state = change_in (served lent state false (request_of setup))
completed lent _ _ state = None

-- what endpoint 1 is: what the last completed request says that sets it, and off since a reset
unfoldable pub endpoint_by : Lent → List Event → Endpoint1
endpoint_by lent [] = Off
endpoint_by lent (ResetCame ∷ before) = Off
endpoint_by lent (InAsked answer ∷ before) = endpoint_then (endpoint_by lent before) (completed lent (is_empty_packet answer) (setup_in before) (endpoint_by lent before))
endpoint_by lent (_ ∷ before) = endpoint_by lent before

-- whether remote wakeup is enabled: what the last completed request says that sets it, and not since a reset (9.4.5)
unfoldable pub wakeup_by : Lent → List Event → Bool
wakeup_by lent [] = false
wakeup_by lent (ResetCame ∷ before) = false
wakeup_by lent (InAsked answer ∷ before) = wakeup_then (wakeup_by lent before) (completed lent (is_empty_packet answer) (setup_in before) (endpoint_by lent before))
wakeup_by lent (_ ∷ before) = wakeup_by lent before

abbrev pub address_then : ℕ → Option Change → ℕ
address_then address (Some (Address next)) = next
address_then address _ = address

-- the device's address: that of the last completed SET_ADDRESS, and 0 since a reset
unfoldable pub address_by : Lent → List Event → ℕ
address_by lent [] = 0
address_by lent (ResetCame ∷ before) = 0
address_by lent (InAsked answer ∷ before) = address_then (address_by lent before) (completed lent (is_empty_packet answer) (setup_in before) (endpoint_by lent before))
address_by lent (_ ∷ before) = address_by lent before

-- the transfer under way has set endpoint 1: one of its IN tokens was answered by the empty packet of such a request
unfoldable pub has_renewed : Lent → List Event → Bool
has_renewed lent [] = false
has_renewed lent (SetupCame bytes ∷ before) = false
has_renewed lent (ResetCame ∷ before) = false
has_renewed lent (InAsked answer ∷ before) = renewed_then (has_renewed lent before) (completed lent (is_empty_packet answer) (setup_in before) (endpoint_by lent before))
has_renewed lent (_ ∷ before) = has_renewed lent before

-- the bus is suspended (section 9.1.1.6): no resume, no reset and no SETUP packet has come since
unfoldable pub is_suspended : List Event → Bool
is_suspended [] = false
is_suspended (SuspendCame ∷ before) = true
is_suspended (ResumeCame ∷ before) = false
is_suspended (ResetCame ∷ before) = false
is_suspended (SetupCame bytes ∷ before) = false
is_suspended (_ ∷ before) = is_suspended before

-- a remote wakeup was signalled since the last suspend
unfoldable pub has_woken : List Event → Bool
has_woken [] = false
has_woken (SuspendCame ∷ before) = false
has_woken (ResetCame ∷ before) = false
has_woken (WakeAsked has_report answer ∷ before) = has_woken before || answer
has_woken (_ ∷ before) = has_woken before

-- when a remote wakeup is signalled (section 7.1.7.7): once in each suspend, where the host has enabled it and a report waits
abbrev pub wakes_by : Lent → List Event → Bool → Bool
wakes_by lent past has_report = is_suspended past && not (has_woken past) && wakeup_by lent past && has_report

-- the visible states (table 9-1); a suspended device is in the state that it was in
pub data DeviceState : Type 0 where
  Default : DeviceState
  Addressed : DeviceState
  Configured : DeviceState

abbrev pub visible : Bool → ℕ → DeviceState
visible true address = Configured
visible false address = if address == 0 then Default else Addressed

unfoldable pub device_state : Lent → List Event → DeviceState
device_state lent past = visible (is_configured (endpoint_by lent past)) (address_by lent past)
