-- Representation: how the buffers of endpoint 1 and the session hang together.
use Rattle.std.specs.Prelude.{◌≡◌, ◌⊎◌, ◌≤◌, ◌<◌, nat_lt, ◌==◌, ◌&&◌, ◌||◌, not, ℕ, ◌+◌, ◌-◌, Bool, true, false, List, [], ◌∷◌, ◌++◌, length, None}
use Rattle.usb_device.specs.declared.buffers.PacketSize.{PacketSize}
use Rattle.usb_device.specs.declared.buffers.PacketSize.TheVariants as Sizes
use Rattle.usb_device.specs.declared.report_buffers.Course.{Course}
use Rattle.usb_device.specs.declared.report_buffers.Course.TheVariants.{Rests, Begins, Goes}
use Rattle.usb_device.specs.Calls.{EpCall, Polled}
use Rattle.usb_device.specs.Confirmed.{asked_of}
use Rattle.usb_device.specs.Bus1.{Bus1, blank, agree, Sent, Reported, sent_of, is_old, newest, sets_protocol, marks, Told, told_of, InOrder, Through1, IsMarked}
use Rattle.usb_device.specs.Reports.{cut, count_of, packets_of, with_new, IsPacket, HasNew, IsEmptied, MayRepeat, MayFollow, Carries, Begun}

abbrev pub size_of : PacketSize → ℕ
size_of Sizes.Bytes8 = 8
size_of Sizes.Bytes16 = 16
size_of Sizes.Bytes32 = 32
size_of Sizes.Bytes64 = 64

pub record ReportState : Type 0 where
  -- the bytes of a packet
  pub size : ℕ
  pub course : Course
  -- the report under way, what is to be handed over of it in so many packets, and whether it then is to be handed over again
  pub report : List ℕ
  pub rest : List ℕ
  pub due : ℕ
  pub again : Bool
  -- the packets that were handed over, and not reported as taken
  pub buffered : ℕ
  -- whether the toggles may differ, and whether they may also where the host begins anew
  pub unsure : Bool
  pub lost : Bool
  -- whether the protocol was set since the report under way was given, and whether the transfer of endpoint 0 sets it
  pub old : Bool
  pub protocol : Bool
  -- the scans that are waited
  pub left : ℕ

-- whether packets are still to be handed over
abbrev pub is_more : ReportState → Bool
is_more s = nat_lt 0 s.due || s.again

-- whether the host has all packets of the report under way
abbrev pub is_over : ReportState → Bool
is_over s = (s.buffered == 0) && not (is_more s)

-- whether the host has a packet of the report under way, which is handed over for the last time
abbrev pub is_begun : ReportState → Bool
is_begun s = not s.again && nat_lt s.buffered (count_of s.size s.report - s.due)

abbrev pub copies : Bool → List (List ℕ) → List (List ℕ)
copies true packets = packets
copies false packets = []

-- the packets that are still to be handed over
abbrev pub to_hand : ReportState → List (List ℕ)
to_hand s = cut s.size s.due s.rest ++ copies s.again (packets_of s.size s.report)

-- those that the host will take as new: not the first, where it wants the other toggle
abbrev pub new_of : Bool → List (List ℕ) → List (List ℕ)
new_of true packets = packets
new_of false [] = []
new_of false (packet ∷ rest) = rest

abbrev pub ArePackets : ℕ → List ℕ → List (List ℕ) → Type 0
ArePackets size report [] = Unit {0}
ArePackets size report (packet ∷ rest) = IsPacket packet (packets_of size report) × ArePackets size report rest

-- the buffers are empty. Where the device is sure, the toggles agree, and go on to agree where the host begins anew, which it may
-- not where a report was lost
abbrev pub Agrees : Bool → Bool → Bus1 → Type 0
Agrees true true b = b.opened ≡ false
Agrees true false b = (b.opened ≡ true) × (b.device ≡ false)
Agrees false lost b = (agree b ≡ true) × (b.opened ≡ true → b.device ≡ false)

pub record Free (unsure lost : Bool) (b : Bus1) : Type 0 where
  pub empty : b.slots ≡ []
  pub reported : b.taken ≡ 0
  pub agrees : Agrees unsure lost b

-- no report is under way
pub record Resting (s : ReportState) (b : Bus1) (calls : List EpCall) : Type 0 where
  pub free : Free s.unsure s.lost b
  pub carried : Carries s.size b.got (sent_of calls)
  pub marked : s.unsure ≡ true → IsEmptied b.got

-- one is to be handed over from its first packet on: the protocol was not set since it was given
pub record Beginning (s : ReportState) (b : Bus1) (calls : List EpCall) : Type 0 where
  pub free : Free s.unsure s.lost b
  pub earlier : List Sent
  pub sent : sent_of calls ≡ Reported s.report ∷ earlier
  pub begun : Begun s.size s.report b.got earlier
  pub once : MayFollow begun.pieces begun.before
  pub marked : s.unsure ≡ true → MayRepeat begun.pieces begun.before

-- packets of one are in the buffers, or are to come there. Where the protocol was set since it was given, the host has one.
pub record Going (s : ReportState) (b : Bus1) (calls : List EpCall) : Type 0 where
  pub counted : s.buffered ≡ length b.slots + b.taken
  pub closed : b.opened ≡ false
  pub sure : s.unsure ≡ false
  pub earlier : List Sent
  pub sent : newest (sent_of calls) ≡ Reported s.report ∷ earlier
  pub old : is_old (sent_of calls) ≡ s.old
  pub begun : Begun s.size s.report b.got earlier
  pub has : s.old ≡ true → HasNew begun.pieces
  pub will : Carries s.size (with_new (new_of (agree b) (b.slots ++ to_hand s)) b.got) (Reported s.report ∷ earlier)
  pub ours : ArePackets s.size s.report (b.slots ++ to_hand s)
  pub even : b.slots ≡ [] → agree b ≡ true
  pub busy : to_hand s ≡ [] → nat_lt 0 s.buffered ≡ true
  -- the last packets of it that are not acknowledged: the host has one where fewer are left than it has
  pub last : length (b.slots ++ to_hand s) ≤ count_of s.size s.report → (agree b ≡ true) ⊎ HasNew begun.pieces
  pub fewer : length (b.slots ++ to_hand s) < count_of s.size s.report → HasNew begun.pieces

abbrev pub Now1 : Course → ReportState → Bus1 → List EpCall → Type 0
Now1 Rests s b calls = Resting s b calls
Now1 Begins s b calls = Beginning s b calls
Now1 Goes s b calls = Going s b calls

-- what stands of the buffers does not read these two
abbrev pub core : ReportState → ReportState
core s = record s { protocol = false; left = 0 }

pub record Link1 (s : ReportState) (b : Bus1) (calls : List EpCall) : Type 0 where
  pub asked : s.protocol ≡ sets_protocol (asked_of calls)
  pub fresh : b.reset ≡ true → b ≡ blank true
  pub current : b.reset ≡ false → Now1 s.course (core s) b calls

-- a report is under way
abbrev pub is_under_way : Course → Bool
is_under_way Rests = false
is_under_way _ = true

-- all is handed over, or the buffers are full
abbrev pub IsHeld : ℕ → ReportState → Type 0
IsHeld room s = (to_hand s ≡ []) ⊎ (room ≤ s.buffered)

-- endpoint 1 is ready, and waits for nothing
abbrev pub may_send : Bool → ℕ → Bool
may_send is_ready left = is_ready && (left == 0)

-- nothing is withheld: endpoint 1 may not send; or a reset is to be looked at; or packets are in the buffers or were just taken,
-- and all of the report is handed over, or as much as there are buffers; or the device, asked last, has none
pub data NothingWithheld (may : Bool) (room : ℕ) (s : ReportState) (b : Bus1) (calls : List EpCall) : Type 0 where
  may_not : may ≡ false → NothingWithheld may room s b calls
  was_reset : b.reset ≡ true → NothingWithheld may room s b calls
  all_handed : nat_lt 0 (length b.slots + b.taken) ≡ true → to_hand s ≡ [] → NothingWithheld may room s b calls
  all_full : nat_lt 0 (length b.slots + b.taken) ≡ true → room ≤ length b.slots + b.taken → NothingWithheld may room s b calls
  has_none : (before : List EpCall) → b.slots ≡ [] → calls ≡ Polled None ∷ before → NothingWithheld may room s b calls

-- the controller was told of each of these, and of nothing else
abbrev pub InStep : List Told → Bus1 → Type 0
InStep states b = b.reset ≡ false → InOrder (told_of b.got) states

-- nothing was done to the buffers but that they were looked at or filled; or they were emptied
abbrev pub Leaves : Bus1 → Bus1 → Type 0
Leaves b new = IsMarked b new ⊎ ((steps : List Bus1) × Through1 steps b new)

abbrev pub Bides : Bus1 → Bus1 → Type 0
Bides b new = new.reset ≡ false → (b.reset ≡ false) × Leaves b new

-- what was told of endpoint 1 is the same, and the host may begin anew where it might
abbrev pub KeepsStates : Bus1 → Bus1 → Type 0
KeepsStates b new =
    new.reset ≡ false → (b.reset ≡ false) × (told_of new.got ≡ told_of b.got) × (b.opened ≡ true → new.opened ≡ true) × Leaves b new

-- nothing came but packets
abbrev pub KeepsMarks : Bus1 → Bus1 → Type 0
KeepsMarks b new = new.reset ≡ false → (b.reset ≡ false) × (marks new.got ≡ marks b.got)
