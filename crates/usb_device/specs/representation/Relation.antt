-- Representation: a device layer refines the events that it met, newest first.
use Rattle.std.specs.Prelude.{◌≡◌, List}
use Rattle.usb_device.specs.Requests.{Lent}
use Rattle.usb_device.specs.Events.{Event}
use Rattle.usb_device.specs.Steps.{LayerState, state_of, AllAnswered}

pub record Refines (lent : Lent) (past : List Event) (now : LayerState) : Type 0 where
  pub answered : AllAnswered lent past
  pub state : now ≡ state_of lent past
