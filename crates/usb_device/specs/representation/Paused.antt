-- Representation: a device with its layer and its buffers went on by events of one history.
use Rattle.std.specs.Prelude.{◌≡◌, ◌⊎◌, true, List, ◌++◌}
use Rattle.usb_device.specs.Calls.{EpCall}
use Rattle.usb_device.specs.Requests.{Lent}
use Rattle.usb_device.specs.Events.{Event}
use Rattle.usb_device.specs.Steps.{LayerState}
use Rattle.usb_device.specs.Bus1.{Bus1}
use Rattle.usb_device.specs.Pauses.{AreMet, IsUnsent, has_reset}
use Rattle.usb_device.specs.representation.Link1.{ReportState, Bides}
use Rattle.usb_device.specs.representation.Layered.{Layered}

-- from there to here, by what came over endpoint 0
abbrev pub GoesOn : {E : Type 0} → (List EpCall → E → Type 0) → LayerState → E → ReportState → Bus1 → LayerState → E → ReportState → Bus1 → Type 0
GoesOn refines layer behind reports b now at next new =
    (lent : Lent) (past : List Event) → Layered refines lent past layer behind reports b
    → (met : List Event) × Layered refines lent (met ++ past) now at next new × AreMet met × (IsUnsent lent past b → IsUnsent lent (met ++ past) new)
    × ((has_reset met ≡ true) ⊎ Bides b new)
