-- Trusted: the report descriptor that a host keeps, by looking back over its calls.
use Rattle.shapes.specs.Shapes.{Bytes}
use Rattle.std.specs.Prelude.{ℕ, ◌+◌, ◌*◌, ◌==◌, if◌then◌else◌, nat_lt, nat_le, Bool, not, ◌&&◌, ◌||◌, List, [], ◌∷◌, ◌++◌, length, slice_index, Option, Some, None}
use Rattle.host.specs.Calls.{HostCall, was_set_up, got_packet, lost}
use Rattle.host.specs.Faultless.{is_faultless}

-- A text that is being gathered: how many bytes of it were asked for, and those that came.
pub record Fetch : Type 0 where
  pub wanted : ℕ
  pub bytes : Bytes

-- GET_DESCRIPTOR of the report descriptor: 81 06 00 22 00 00 and the length, the low byte first (HID 1.11, 7.1.1)
abbrev pub asks_for_report : Bytes → Bool
asks_for_report setup =
    slice_index setup 0 == 0x81 && (slice_index setup 1 == 0x06 && (slice_index setup 2 == 0x00 && (slice_index setup 3 == 0x22
    && (slice_index setup 4 == 0x00 && slice_index setup 5 == 0x00))))

-- how many bytes a SETUP packet asks for
abbrev pub wanted_length : Bytes → ℕ
wanted_length setup = slice_index setup 6 + 256 * slice_index setup 7

-- A SETUP packet ends what was being gathered, and may begin another text.
abbrev pub begun_by : Bytes → Option Fetch
begun_by setup = if asks_for_report setup then Some (record { wanted = wanted_length setup; bytes = [] }) else None

-- a text with a packet more
abbrev pub with_packet : Fetch → Bytes → Fetch
with_packet g packet = record { wanted = g.wanted; bytes = g.bytes ++ packet }

-- A text ends with a packet of less than eight bytes, or with the last byte that was asked for (USB 2.0, 5.5.3).
abbrev pub is_end : Fetch → Bytes → Bool
is_end g packet = nat_lt (length packet) 8 || nat_le g.wanted (length (g.bytes ++ packet))

-- what is still being gathered after a packet
abbrev pub goes_on : Option Fetch → Bytes → Bool → Option Fetch
goes_on None packet taken = None
goes_on (Some g) packet taken = if taken && not (is_end g packet) then Some (with_packet g packet) else None

-- the text that is being gathered after these calls, if one is
unfoldable pub gathering : List HostCall → Option Fetch
gathering [] = None
gathering (was_set_up setup ∷ past) = begun_by setup
gathering (got_packet packet taken ∷ past) = goes_on (gathering past) packet taken
gathering (lost ∷ past) = None

-- how many bytes the keyboard's report descriptor has
abbrev pub text_length : ℕ
text_length = 99

-- A text of that length is kept if it has no fault.
abbrev pub is_kept : Bytes → Bool
is_kept text = length text == text_length && is_faultless text

-- what is kept after a packet, where this was kept before
abbrev pub kept_with : Option Fetch → Bytes → Bool → Option Bytes → Option Bytes
kept_with None packet taken before = before
kept_with (Some g) packet taken before = if taken && (is_end g packet && is_kept (g.bytes ++ packet)) then Some (g.bytes ++ packet) else before

-- the last text that was gathered to its end and kept
unfoldable pub kept : List HostCall → Option Bytes
kept [] = None
kept (was_set_up setup ∷ past) = kept past
kept (got_packet packet taken ∷ past) = kept_with (gathering past) packet taken (kept past)
kept (lost ∷ past) = kept past
