-- Trusted: how long endpoint 1 waits, by what the device met; that a report is handed over where it does not wait; and when the data
-- toggles are known to agree.
use Rattle.std.specs.Prelude.{◌≡◌, ◌⊎◌, ℕ, zero, ◌+◌, ◌-◌, ◌&&◌, ◌||◌, nat_lt, length, Bool, true, false, List, [], ◌∷◌, ◌++◌, Option, Some, None}
use Rattle.usb_device.specs.declared.answer.EpAnswer.{EpAnswer}
use Rattle.usb_device.specs.declared.answer.Endpoint1.TheVariants.{Ready}
use Rattle.usb_device.specs.declared.answer.Change.{Change}
use Rattle.usb_device.specs.declared.answer.Change.TheVariants.{Endpoint}
use Rattle.usb_device.specs.Events.{Event, SetupCame, OutCame, InAsked, PollAsked, ResetCame, StatusSeen, ScanCame}
use Rattle.usb_device.specs.Requests.{Lent}
use Rattle.usb_device.specs.Steps.{polled_of}
use Rattle.usb_device.specs.States.{is_empty_packet, setup_in, completed, endpoint_by, has_renewed}
use Rattle.usb_device.specs.Bus1.{Bus1, IsKnown, IsMarked, Looked1, sets_protocol}

abbrev pub sets_endpoint : Option Change → Bool
sets_endpoint (Some (Endpoint state)) = true
sets_endpoint _ = false

-- this is the status packet of a request behind which a host can't take a report as it is meant before it has that packet: one that sets
-- endpoint 1 (sections 9.4.1, 9.4.7, 9.4.9, 9.4.10), or the protocol (HID 1.11 section 7.2.6)
abbrev pub begins_pause : Lent → List Event → EpAnswer → Bool
begins_pause lent before answer =
    (is_empty_packet answer && sets_protocol (setup_in before))
    || sets_endpoint (completed lent (is_empty_packet answer) (setup_in before) (endpoint_by lent before))

-- it begins a pause of 50 scans where none is under way
abbrev pub pause_by : Bool → ℕ → ℕ
pause_by true zero = 50
pause_by _ left = left

-- the scans that endpoint 1 still waits behind these events, newest first. Once the host is known to have the packet, and behind a reset
-- of the bus, it waits for nothing; a request that the host repeats meanwhile does not count anew.
abbrev pub pause_of : Lent → List Event → ℕ
pause_of lent [] = 0
pause_of lent (InAsked answer ∷ before) = pause_by (begins_pause lent before answer) (pause_of lent before)
pause_of lent (StatusSeen ∷ before) = 0
pause_of lent (ResetCame ∷ before) = 0
pause_of lent (ScanCame ∷ before) = pause_of lent before - 1
pause_of lent (_ ∷ before) = pause_of lent before

abbrev pub scans_in : List Event → ℕ
scans_in [] = 0
scans_in (ScanCame ∷ before) = scans_in before + 1
scans_in (_ ∷ before) = scans_in before

-- at some moment of these, behind those before, it waits for nothing
abbrev pub Ends : Lent → List Event → List Event → Type 0
Ends lent since before = (after : List Event) × (mid : List Event) × (since ≡ after ++ mid) × (pause_of lent (mid ++ before) ≡ 0)

-- these came over endpoint 0, or are resets of the bus
abbrev pub AreMet : List Event → Type 0
AreMet [] = Unit {0}
AreMet (SetupCame bytes ∷ before) = AreMet before
AreMet (OutCame packet answer ∷ before) = AreMet before
AreMet (InAsked answer ∷ before) = AreMet before
AreMet (ResetCame ∷ before) = AreMet before
AreMet (_ ∷ before) = ⊥

-- polls of endpoint 1 alone
abbrev pub ArePolls : List Event → Type 0
ArePolls [] = Unit {0}
ArePolls (PollAsked answer ∷ before) = ArePolls before
ArePolls (_ ∷ before) = ⊥

-- the device was asked for a report, last among these, and had none
abbrev pub HasNone : List Event → Type 0
HasNone (PollAsked answer ∷ before) = polled_of answer ≡ None
HasNone _ = ⊥

-- what a call to the whole met: that of endpoint 0, then that the host has the status packet, where it has, and then polls
abbrev pub seen_if : Bool → List Event → List Event
seen_if true past = StatusSeen ∷ past
seen_if false past = past

-- packets are in the buffers or were just taken, or the device had no report when it was asked
abbrev pub Hands : Bus1 → List Event → Type 0
Hands b asked = (nat_lt 0 (length b.slots + b.taken) ≡ true) ⊎ HasNone asked

-- where the device is configured and endpoint 1 not halted, where it waits for nothing, and no reset is to be looked at, it is so
abbrev pub ServesReports : Lent → List Event → Bus1 → List Event → Type 0
ServesReports lent past b asked = endpoint_by lent past ≡ Ready → pause_of lent past ≡ 0 → b.reset ≡ false → Hands b asked

abbrev pub has_reset : List Event → Bool
has_reset [] = false
has_reset (ResetCame ∷ before) = true
has_reset (_ ∷ before) = has_reset before

-- what the host has taken is looked at in each call, so that another report can follow: unless the bus was reset, or what came over
-- endpoint 0 has emptied the buffers
abbrev pub LooksAtReports : List Event → Bus1 → Bus1 → Type 0
LooksAtReports met b new = has_reset met ≡ false → new.reset ≡ false → IsMarked b new ⊎ Looked1 b new

-- where the transfer under way has set endpoint 1, no packet was handed over since, or a reset is to be looked at
abbrev pub IsUnsent : Lent → List Event → Bus1 → Type 0
IsUnsent lent past b = has_renewed lent past ≡ true → b.reset ≡ false → b.opened ≡ true

-- once the host has the status packet that set endpoint 1, the device knows that the host has begun anew with DATA0 (section
-- 9.1.1.5): unless it handed over a packet before, where the pause had ended
abbrev pub KnowsHost : Bool → Lent → List Event → List Event → Bus1 → Bus1 → Type 0
KnowsHost done lent past all b new =
    IsUnsent lent past b → done ≡ true → has_renewed lent all ≡ true → new.reset ≡ false → IsKnown new.got
