-- Trusted: endpoint 1 of a controller with buffers, the data toggles of both sides, and what may happen on its bus (USB 2.0
-- sections 5.7.5 and 8.6). A host takes a packet as new where it has the toggle that it wants, and drops it as a repetition
-- where it has the other one; it acknowledges both. The acknowledgement may be lost: then the packet is sent again.
use Rattle.std.specs.Prelude.{◌≡◌, ◌⊎◌, ℕ, ◌+◌, ◌==◌, ◌&&◌, Bool, true, false, not, List, [], ◌∷◌, ◌++◌, slice_index, Option, Some, None}
use Rattle.usb_device.specs.declared.answer.Endpoint1.{Endpoint1}
use Rattle.usb_device.specs.Calls.{EpCall, SetUp, Out, In, Polled, BusReset}
use Rattle.usb_device.specs.Confirmed.{asked_of}
use Rattle.usb_device.specs.States.{is_empty_packet}

-- what endpoint 1 brought the host
pub data Got : Type 0 where
  -- it took this packet as new
  New : List ℕ → Got
  -- the device emptied its buffers, and began with DATA0: the endpoint is this from now on
  Anew : Endpoint1 → Got
  -- the device emptied its buffers, since it gave up the report in them; the toggles go on
  GivenUp : Got
  -- the device knew that the host has begun anew, too, before it handed over a packet
  Known : Got

pub record Bus1 : Type 0 where
  -- since the last reset of the bus, newest first
  pub got : List Got
  -- whether the toggle that the host wants, and that of the oldest packet in the buffers, is DATA1
  pub host : Bool
  pub device : Bool
  -- the packets in the buffers, oldest first
  pub slots : List (List ℕ)
  -- how many packets were acknowledged, and that was not reported
  pub taken : ℕ
  -- the device began anew, handed over no packet since, and does not know of the host: it may begin anew, too
  pub opened : Bool
  -- the bus was reset, and that was not reported
  pub reset : Bool

-- nothing has happened since a reset
abbrev pub blank : Bool → Bus1
blank reset = record { got = []; host = false; device = false; slots = []; taken = 0; opened = false; reset = reset }

abbrev pub same : Bool → Bool → Bool
same true b = b
same false b = not b

-- whether the host takes the next packet as new
abbrev pub agree : Bus1 → Bool
agree b = same b.host b.device

abbrev pub received : Bool → List ℕ → List Got → List Got
received true packet got = New packet ∷ got
received false packet got = got

-- the host has the packet, so that it wants the other toggle; and the device knows
abbrev pub with_taken1 : Bus1 → List ℕ → List (List ℕ) → Bus1
with_taken1 b packet rest = record {
  got = received (agree b) packet b.got;
  host = not b.device;
  device = not b.device;
  slots = rest;
  taken = b.taken + 1;
  opened = b.opened;
  reset = b.reset;
}

-- or does not
abbrev pub with_lost1 : Bus1 → List ℕ → Bus1
with_lost1 b packet = record {
  got = received (agree b) packet b.got;
  host = not b.device;
  device = b.device;
  slots = b.slots;
  taken = b.taken;
  opened = b.opened;
  reset = b.reset;
}

-- the host wants DATA0
abbrev pub with_host_anew : Bus1 → Bus1
with_host_anew b = record { got = b.got; host = false; device = b.device; slots = b.slots; taken = b.taken; opened = b.opened; reset = b.reset }

-- one thing happens. A host that has the status packet of a request which sets endpoint 1 begins anew (sections 9.4.1, 9.4.7,
-- 9.4.10): at some time before the device hands over another packet, for which it waits (`pause_of`).
pub data Happens1 (b next : Bus1) : Type 0 where
  takes : (packet : List ℕ) (rest : List (List ℕ)) → b.slots ≡ packet ∷ rest → next ≡ with_taken1 b packet rest → Happens1 b next
  loses : (packet : List ℕ) (rest : List (List ℕ)) → b.slots ≡ packet ∷ rest → next ≡ with_lost1 b packet → Happens1 b next
  host_begins : b.opened ≡ true → next ≡ with_host_anew b → Happens1 b next
  resets1 : next ≡ blank true → Happens1 b next

abbrev pub Goes1 : List Bus1 → Bus1 → Bus1 → Type 0
Goes1 [] b next = next ≡ b
Goes1 (mid ∷ rest) b next = Happens1 b mid × Goes1 rest mid next

-- what was taken is reported
abbrev pub reported : Bus1 → Bus1
reported b = record { got = b.got; host = b.host; device = b.device; slots = b.slots; taken = 0; opened = b.opened; reset = b.reset }

-- nothing was done but that
abbrev pub OnlyReported : Bus1 → Bus1 → Type 0
OnlyReported b new = (steps : List Bus1) × (mid : Bus1) × Goes1 steps b mid × (new ≡ reported mid)

-- the host is known to have the status packet: it has begun anew
abbrev pub with_known : Bus1 → Bus1
with_known b = record { got = Known ∷ b.got; host = false; device = b.device; slots = b.slots; taken = b.taken; opened = false; reset = b.reset }

abbrev pub known_if : Bool → Bus1 → Bus1
known_if true b = with_known b
known_if false b = b

-- a command has no effect where a reset has come that was not reported
abbrev pub unless_reset : Bool → Bus1 → Bus1 → Bus1
unless_reset true b next = b
unless_reset false b next = next

-- a packet is put into a buffer
abbrev pub filled : Bus1 → List ℕ → Bus1
filled b packet = unless_reset b.reset b (record {
  got = b.got;
  host = b.host;
  device = b.device;
  slots = b.slots ++ packet ∷ [];
  taken = b.taken;
  opened = false;
  reset = b.reset;
})

-- the device begins anew: the buffers are empty, and the next packet has DATA0
abbrev pub anew : Bus1 → Endpoint1 → Bus1
anew b state = unless_reset b.reset b (record {
  got = Anew state ∷ b.got;
  host = b.host;
  device = false;
  slots = [];
  taken = 0;
  opened = true;
  reset = b.reset;
})

-- the device empties the buffers: the next packet has the toggle of the oldest one that was in them
abbrev pub given_up : Bus1 → Bus1
given_up b = unless_reset b.reset b (record {
  got = GivenUp ∷ b.got;
  host = b.host;
  device = b.device;
  slots = [];
  taken = 0;
  opened = b.opened;
  reset = b.reset;
})

-- how many buffers there are
abbrev pub room_of : Bool → ℕ
room_of true = 2
room_of false = 1

-- a report that the device gave, or that the protocol was set behind it
pub data Sent : Type 0 where
  Reported : List ℕ → Sent
  Changed : Sent

-- SET_PROTOCOL (HID 1.11 section 7.2.6)
abbrev pub sets_protocol : Option (List ℕ) → Bool
sets_protocol (Some setup) = (slice_index setup 0 == 0x21) && (slice_index setup 1 == 0x0B)
sets_protocol None = false

abbrev pub changed_if : Bool → List Sent → List Sent
changed_if true sent = Changed ∷ sent
changed_if false sent = sent

-- the reports that the device gave since the last reset, newest first, and where the protocol was set: where the device gave the
-- empty packet for SET_PROTOCOL
abbrev pub sent_of : List EpCall → List Sent
sent_of [] = []
sent_of (Polled (Some report) ∷ before) = Reported report ∷ sent_of before
sent_of (In answer ∷ before) = changed_if (is_empty_packet answer && sets_protocol (asked_of before)) (sent_of before)
sent_of (BusReset ∷ before) = []
sent_of (_ ∷ before) = sent_of before

-- the protocol was set since the newest report was given
abbrev pub is_old : List Sent → Bool
is_old (Changed ∷ sent) = true
is_old _ = false

-- the newest report, and what was sent before it
abbrev pub newest : List Sent → List Sent
newest [] = []
newest (Changed ∷ sent) = newest sent
newest (Reported report ∷ sent) = Reported report ∷ sent

-- what the driver is told: what endpoint 1 is from now on; and that the host has begun anew, too
pub data Told : Type 0 where
  Is : Endpoint1 → Told
  HostBegan : Told

-- what it was told since the last reset, newest first
abbrev pub told_of : List Got → List Told
told_of [] = []
told_of (New packet ∷ before) = told_of before
told_of (GivenUp ∷ before) = told_of before
told_of (Known ∷ before) = HostBegan ∷ told_of before
told_of (Anew state ∷ before) = Is state ∷ told_of before

-- some of all of these, in their order; behind a packet that was handed over it counts for nothing that the host has begun anew
pub data InOrder : List Told → List Told → Type 0 where
  none : InOrder [] []
  told : (x : Told) (some all : List Told) → InOrder some all → InOrder (x ∷ some) (x ∷ all)
  unheard : (some all : List Told) → InOrder some all → InOrder some (HostBegan ∷ all)

-- what came beside packets
abbrev pub marks : List Got → List Got
marks [] = []
marks (New packet ∷ before) = marks before
marks (mark ∷ before) = mark ∷ marks before

-- the device began anew, knew that the host has, too, and has not emptied its buffers since
abbrev pub IsKnown : List Got → Type 0
IsKnown got = (before : List Got) × (marks got ≡ Known ∷ before)

-- one thing is done: the driver is asked what was taken, or a packet is put into a buffer, or something happens on the bus
pub data Does1 (b next : Bus1) : Type 0 where
  happens1 : Happens1 b next → Does1 b next
  looks1 : next ≡ reported b → Does1 b next
  fills1 : (packet : List ℕ) → next ≡ filled b packet → Does1 b next

-- any number of them, through these
abbrev pub Through1 : List Bus1 → Bus1 → Bus1 → Type 0
Through1 [] b next = next ≡ b
Through1 (mid ∷ rest) b next = Does1 b mid × Through1 rest mid next

-- at a moment between, the driver was asked what the host had taken: what is taken behind it came since
abbrev pub Looked1 : Bus1 → Bus1 → Type 0
Looked1 b new = (before after : List Bus1) × (mid : Bus1) × Through1 before b mid × Through1 after (reported mid) new

-- the buffers were emptied, or the host is known to have begun anew
abbrev pub IsMarked : Bus1 → Bus1 → Type 0
IsMarked b new = (mark : Got) × (since : List Got) × (marks new.got ≡ (mark ∷ since) ++ marks b.got)

-- the calls but for the polls
abbrev pub no_polls : List EpCall → List EpCall
no_polls [] = []
no_polls (Polled answer ∷ before) = no_polls before
no_polls (SetUp bytes ∷ before) = SetUp bytes ∷ no_polls before
no_polls (Out packet answer ∷ before) = Out packet answer ∷ no_polls before
no_polls (In answer ∷ before) = In answer ∷ no_polls before
no_polls (BusReset ∷ before) = BusReset ∷ no_polls before

-- what the calls are but for endpoint 0: polls, and resets
abbrev pub beside : List EpCall → List EpCall
beside [] = []
beside (Polled answer ∷ before) = Polled answer ∷ beside before
beside (BusReset ∷ before) = BusReset ∷ beside before
beside (_ ∷ before) = beside before

-- more calls came on top of these, and beside endpoint 0 they are such
abbrev pub Adds : List EpCall → List EpCall → List EpCall → Type 0
Adds others calls later = (since : List EpCall) × (later ≡ since ++ calls) × (beside since ≡ others)

-- none but those of endpoint 0, or the bus was reset
abbrev pub KeptOrReset : List EpCall → List EpCall → Type 0
KeptOrReset calls later = Adds [] calls later ⊎ Adds (BusReset ∷ []) calls later

-- none but those of endpoint 0 unless it was
abbrev pub KeptUnless : Bool → List EpCall → List EpCall → Type 0
KeptUnless true calls later = Adds (BusReset ∷ []) calls later
KeptUnless false calls later = Adds [] calls later
