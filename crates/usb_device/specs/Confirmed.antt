-- Trusted: a control write that the host saw the end of is one of the session of the device: it took the SETUP packet, acknowledged
-- the data, and then gave the empty packet.
use Rattle.std.specs.Prelude.{◌≡◌, ◌⊎◌, ℕ, true, List, [], ◌∷◌, ◌++◌, Option, Some, None}
use Rattle.usb_device.specs.declared.answer.EpAnswer.TheVariants.{Ack, Nak, Packet}
use Rattle.usb_device.specs.Calls.{EpCall, SetUp, Out, In, BusReset}
use Rattle.usb_device.specs.Bus.{Seen, SetupSent, OutTaken, InGot, setup_of, write_of, is_out, is_write}

-- the SETUP packet of the session's transfer
abbrev pub asked_of : List EpCall → Option (List ℕ)
asked_of [] = None
asked_of (SetUp bytes ∷ before) = Some bytes
asked_of (BusReset ∷ before) = None
asked_of (_ ∷ before) = asked_of before

-- the newest packet of it that was acknowledged
abbrev pub taken_of : List EpCall → Option (List ℕ)
taken_of [] = None
taken_of (SetUp bytes ∷ before) = None
taken_of (BusReset ∷ before) = None
taken_of (Out packet Ack ∷ before) = Some packet
taken_of (_ ∷ before) = taken_of before

-- the empty packet
abbrev pub confirmation : EpCall
confirmation = In (Packet (record { items = [] }))

-- at some moment of the session the empty packet was given in the transfer of this SETUP packet, after this data
abbrev pub WasConfirmed : List ℕ → List ℕ → List EpCall → Type 0
WasConfirmed setup data_ [] = ⊥
WasConfirmed setup data_ (call ∷ before) =
    ((call ≡ confirmation) × (asked_of before ≡ Some setup) × (taken_of before ≡ Some data_)) ⊎ WasConfirmed setup data_ before

-- at some moment of what the host met here its transfer was this SETUP packet, and this packet its first data
abbrev pub WasSent : List ℕ → List ℕ → List Seen → Type 0
WasSent setup data_ [] = ⊥
WasSent setup data_ (seen ∷ before) =
    ((setup_of (seen ∷ before) ≡ Some setup) × (write_of (seen ∷ before) ≡ Some data_)) ⊎ WasSent setup data_ before

-- data that the device acknowledges in a transfer to it are such that the host sent here
abbrev pub TakesOnly : List Seen → List EpCall → EpCall → Type 0
TakesOnly sent before (Out packet Ack) = (setup : List ℕ) → asked_of before ≡ Some setup → is_out setup ≡ true → WasSent setup packet sent
TakesOnly sent before _ = Unit {0}

-- it was confirmed so, and since then the device acknowledged no data but those that the host sent here
abbrev pub ConfirmedBefore : List Seen → List ℕ → List ℕ → List EpCall → Type 0
ConfirmedBefore sent setup data_ [] = ⊥
ConfirmedBefore sent setup data_ (call ∷ before) =
    ((call ≡ confirmation) × (asked_of before ≡ Some setup) × (taken_of before ≡ Some data_))
    ⊎ (TakesOnly sent before call × ConfirmedBefore sent setup data_ before)

-- each write that the host saw the end of was confirmed, before anything that the host sent since
abbrev pub AllKept : List Seen → List EpCall → Type 0
AllKept seen calls =
    (after before : List Seen) (setup data_ : List ℕ) → seen ≡ after ++ (InGot [] ∷ before) → setup_of before ≡ Some setup → is_write setup ≡ true
    → write_of before ≡ Some data_ → ConfirmedBefore after setup data_ calls

-- on the bus: one write, another, and the first again, each with its status stage
abbrev pub three_writes : List ℕ → List ℕ → List ℕ → List Seen
three_writes setup one other =
    InGot [] ∷ OutTaken one ∷ SetupSent setup ∷ InGot [] ∷ OutTaken other ∷ SetupSent setup ∷ InGot [] ∷ OutTaken one ∷ SetupSent setup ∷ []

-- a session that confirms the first two of them alone: the last is put off and given up
abbrev pub last_is_lost : List ℕ → List ℕ → List ℕ → List EpCall
last_is_lost setup one other =
    Out one Nak ∷ SetUp setup ∷ confirmation ∷ Out other Ack ∷ SetUp setup ∷ confirmation ∷ Out one Ack ∷ SetUp setup ∷ []
