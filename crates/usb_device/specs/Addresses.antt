-- Trusted: the address that a controller answers to (USB 2.0 sections 9.2.6.3 and 9.4.6).
use Rattle.std.specs.Prelude.{◌≡◌, ◌⊎◌, ℕ, Bool, true, false, List, [], ◌∷◌, Option, Some}
use Rattle.usb_device.specs.Calls.{EpCall, BusReset}
use Rattle.usb_device.specs.Bus.{Bus}
use Rattle.usb_device.specs.Bus1.{Adds}

-- a reset of the bus sets it to 0; else it stays
abbrev pub StaysBy : Bool → ℕ → ℕ → Type 0
StaysBy true old new = new ≡ 0
StaysBy false old new = new ≡ old

-- and a reset stays until it is looked at
abbrev pub Stays : Bus → Bus → ℕ → ℕ → Type 0
Stays b next old new = (b.met.reset ≡ true → next.met.reset ≡ true) × ((b.met.reset ≡ true → old ≡ 0) → StaysBy next.met.reset old new)

-- likewise where a reset may be handed on to the device meanwhile
abbrev pub StaysOrReset : Bool → List EpCall → List EpCall → ℕ → ℕ → Type 0
StaysOrReset reset calls later old new =
    (Adds [] calls later × StaysBy reset old new) ⊎ (Adds (BusReset ∷ []) calls later × (new ≡ 0))

-- behind a status stage that brings an address the controller is told it; else it is told nothing
abbrev pub Tells : Bool → Option ℕ → Bus → Bus → ℕ → ℕ → Type 0
Tells true (Some address) b next old new = StaysBy next.met.reset address new
Tells _ _ b next old new = (next ≡ b) × (new ≡ old)

-- what a call to the whole does: the address is the one that is due, and 0 behind a reset that came since; else it stays, or a reset
-- sets it to 0
abbrev pub Addressed : Bool → Option ℕ → Bool → List EpCall → List EpCall → ℕ → ℕ → Type 0
Addressed true (Some address) reset calls later old new = StaysBy reset address new
Addressed _ _ reset calls later old new = StaysOrReset reset calls later old new
