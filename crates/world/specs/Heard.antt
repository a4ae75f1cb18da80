-- Trusted: what a host hears of a session, and the descriptor that it then keeps.
use Rattle.shapes.specs.Shapes.{Bytes}
use Rattle.std.specs.Prelude.{◌≡◌, Bool, Option, None, Some, List, [], ◌∷◌}
use Rattle.descriptor_build.specs.Served.{report_bytes}
use Rattle.control_ep.specs.declared.answer.EpAnswer.TheVariants.{Packet}
use Rattle.host.specs.Calls.{HostCall, was_set_up, got_packet, lost}
use Rattle.host.specs.Kept.{gathering, kept}
use Rattle.keyboard.specs.Calls.{Call, SetUp, In, BusReset}

-- what a host hears of a call, by whether memory for a packet was there: its SETUP packets, the packets that the keyboard
-- answers, and that the bus was reset
abbrev pub heard : Call → Bool → Option HostCall
heard (SetUp bytes) memory = Some (was_set_up bytes)
heard (In (Packet packet)) memory = Some (got_packet packet.items memory)
heard BusReset memory = Some lost
heard _ memory = None

-- what a call lets the host hear, if anything, on top of what it heard before
abbrev pub with_heard : Option HostCall → List HostCall → List HostCall
with_heard None calls = calls
with_heard (Some call) calls = call ∷ calls

-- the calls of a host, newest first, that was reported so much before a session and hears the session: at each call memory may
-- be there or not
pub data Hears (reported : List HostCall) : List Call → List HostCall → Type 0 where
  at_start : Hears reported [] reported
  one_more : (call : Call) (memory : Bool) (before : List Call) (earlier : List HostCall) → Hears reported before earlier
      → Hears reported (call ∷ before) (with_heard (heard call memory) earlier)

-- no text is kept, or the keyboard's report descriptor
pub data NoneOrServed (text : Option Bytes) : Type 0 where
  none_kept : text ≡ None → NoneOrServed text
  served_kept : text ≡ Some report_bytes → NoneOrServed text

-- before a session a host that was told so much gathers nothing, and keeps nothing but that descriptor
abbrev pub IsFresh : List HostCall → Type 0
IsFresh reported = (gathering reported ≡ None) × NoneOrServed (kept reported)
