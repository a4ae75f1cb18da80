-- Trusted: a fetch of the report descriptor that came through.
use Rattle.shapes.specs.Shapes.{Bytes}
use Rattle.std.specs.Prelude.{◌≡◌, ◌≤◌, true, List, [], ◌∷◌, ◌++◌, length}
use Rattle.std.specs.Int.{div_ceil}
use Rattle.host.specs.Calls.{HostCall, was_set_up, got_packet}
use Rattle.host.specs.Kept.{asks_for_report, wanted_length, text_length}

-- these calls are packets for which memory was there
abbrev pub AreTaken : List HostCall → Type 0
AreTaken [] = Unit {0}
AreTaken (got_packet packet taken ∷ before) = (taken ≡ true) × AreTaken before
AreTaken (_ ∷ before) = ⊥

-- after what a host was told before, it saw a SETUP packet that asks for at least the 99 bytes of the report descriptor, and
-- then its 13 packets of eight bytes, of which the last has fewer, before any other SETUP packet, a bus reset or a cut
pub record IsFetched (reported host : List HostCall) : Type 0 where
  pub later : List HostCall
  pub packets : List HostCall
  pub setup : Bytes
  pub before : List HostCall
  pub split : host ≡ later ++ (packets ++ (was_set_up setup ∷ before ++ reported))
  pub asks : asks_for_report setup ≡ true
  pub enough : text_length ≤ wanted_length setup
  pub count : length packets ≡ div_ceil text_length 8
  pub taken : AreTaken packets
