-- Representation: the bus of the buffers that a script plays.
use Rattle.std.specs.Prelude.{ℕ, Bool, true, false, List, [], ◌∷◌, map, Option, Some, None}
use Rattle.std.specs.Option.{option_map}
use Rattle.usb_device.specs.declared.played_buffers.Brought as Noted
use Rattle.usb_device.specs.declared.played_buffers.PlayedBuffers.{PlayedBuffers}
use Rattle.usb_device.specs.Bus1.{Bus1, Got, New, Anew, GivenUp, Known, Goes1, with_host_anew}

abbrev pub got_of : Noted.Brought → Got
got_of (Noted.TheVariants.New packet) = New packet.items
got_of (Noted.TheVariants.Anew state) = Anew state
got_of Noted.TheVariants.GivenUp = GivenUp
got_of Noted.TheVariants.Known = Known

abbrev pub slots_of : Option (List ℕ) → List (List ℕ)
slots_of (Some packet) = packet ∷ []
slots_of None = []

abbrev pub count_of_taken : Bool → ℕ
count_of_taken true = 1
count_of_taken false = 0

abbrev pub played_bus : PlayedBuffers → Bus1
played_bus b = record {
  got = map got_of b.got.items;
  host = b.host;
  device = b.device;
  slots = slots_of (option_map (λ p. p.items) b.slot);
  taken = count_of_taken b.taken;
  opened = b.opened;
  reset = b.reset;
}

-- the host begins anew, where the device has
abbrev pub begun_if : Bool → Bus1 → Bus1
begun_if true b = with_host_anew b
begun_if false b = b

-- something may have happened
abbrev pub Moved : Bus1 → Bus1 → Type 0
Moved b next = (steps : List Bus1) × Goes1 steps b next
