-- Representation: the bus of the controller that a script plays.
use Rattle.std.specs.Prelude.{ℕ, Bool, true, false, List, map}
use Rattle.usb_device.specs.declared.controller.Input.{Input}
use Rattle.usb_device.specs.declared.controller.Input.TheVariants as Inputs
use Rattle.usb_device.specs.declared.played_controller.Saw as Noted
use Rattle.usb_device.specs.declared.played_controller.PlayedController.{PlayedController}
use Rattle.usb_device.specs.Bus.{Bus, Seen, SetupSent, OutTaken, InGot, WasReset, InMode, Naks, Sends, Stalls, out_mode_of, Goes}
use Rattle.usb_device.specs.representation.Link.{met_view}

abbrev pub seen_of : Noted.Saw → Seen
seen_of (Noted.TheVariants.SetupSent bytes) = SetupSent bytes
seen_of (Noted.TheVariants.OutTaken packet) = OutTaken packet.items
seen_of (Noted.TheVariants.InGot packet) = InGot packet.items
seen_of Noted.TheVariants.WasReset = WasReset

-- what IN is answered, and whether the host has the packet already
abbrev pub mode_by : Input → Bool → InMode
mode_by Inputs.Nak has = Naks
mode_by (Inputs.Packet packet) has = Sends packet.items has
mode_by Inputs.Stall has = Stalls

abbrev pub played_bus_0 : PlayedController → Bus
played_bus_0 c = record { seen = map seen_of c.seen.items; input = mode_by c.input c.has; output = out_mode_of c.output; met = met_view c.met }

-- something may have happened
abbrev pub Moved0 : Bus → Bus → Type 0
Moved0 b next = (steps : List Bus) × Goes steps b next

-- the address is 0 from the moment that the bus is reset
abbrev pub address_by : Bool → ℕ → ℕ
address_by true address = 0
address_by false address = address
