-- Trusted: what a host was told.
use Rattle.shapes.specs.Shapes.{Bytes}
use Rattle.std.specs.Prelude.{Bool}

-- The calls of a host that change it; lists of them hold the newest first.
pub data HostCall : Type 0 where
  -- a SETUP packet, its eight bytes
  was_set_up : Bytes → HostCall
  -- a packet of data, and whether memory for it was there
  got_packet : Bytes → Bool → HostCall
  -- the bus was reset, or the keyboard was cut off
  lost : HostCall
