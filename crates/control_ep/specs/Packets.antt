-- Trusted: the packets of a transfer that reads (USB 2.0 sections 5.5.3 and 8.5.3).
use Rattle.shapes.specs.Shapes.{Bytes}
use Rattle.std.specs.Prelude.{ℕ, zero, suc, ◌++◌, unwrap_or, ◌*◌, ◌==◌, ◌&&◌, [], length, take, drop, nat_lt, if◌then◌else◌, Option, Some, None}

-- packet j of the bytes, of which no more are sent than were asked for: bytes 8j to 8j + 7 as far as there are; after whole
-- packets that hold fewer bytes than asked for an empty one
unfoldable pub packet_at : Bytes → ℕ → ℕ → Option Bytes
packet_at bytes asked j =
    let sent = take asked bytes in
    if nat_lt (8 * j) (length sent) then Some (take 8 (drop (8 * j) sent))
    else (if (8 * j == length sent) && nat_lt (length sent) asked then Some [] else None)

-- the first n packets put together; after the last packet nothing comes
abbrev pub joined_packets : Bytes → ℕ → ℕ → Bytes
joined_packets bytes asked zero = []
joined_packets bytes asked (suc n) = joined_packets bytes asked n ++ unwrap_or (packet_at bytes asked n) []
