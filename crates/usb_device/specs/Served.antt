-- Trusted: a call to the whole looks at what was met on endpoint 0, hands it on, and asks the device for what is due; and then its buffers
-- answer as the device did (USB 2.0 sections 8.5.3 and 9.2.7).
use Rattle.std.specs.Prelude.{◌≡◌, ◌⊎◌, ℕ, ◌==◌, ◌||◌, ◌&&◌, not, Bool, true, false, List, [], ◌∷◌, ◌++◌, Option, Some, None}
use Rattle.usb_device.specs.declared.answer.EpAnswer.TheVariants.{Ack, Nak, Packet, Stall}
use Rattle.usb_device.specs.Calls.{EpCall, SetUp, Out, In, Polled, BusReset}
use Rattle.usb_device.specs.Requests.{word_at}
use Rattle.usb_device.specs.Bus.{Bus, Seen, Met, Goes, InMode, Naks, Sends, Stalls, OutMode, NaksOut, Takes, StallsOut, is_pending, is_write, setup_of, write_of}
use Rattle.usb_device.specs.Confirmed.{asked_of}
use Rattle.usb_device.specs.Given.{is_read, got_of, outs_of, given_of, heard_of, all_given, Hands}
use Rattle.usb_device.specs.Transfers.{last_0}

-- the host met this, and then more
abbrev pub Grows : List Seen → List Seen → Type 0
Grows old new = (since : List Seen) × (new ≡ since ++ old)

abbrev pub reset_if : Bool → List EpCall → List EpCall
reset_if true calls = BusReset ∷ calls
reset_if false calls = calls

abbrev pub set_up_if : Option (List ℕ) → List EpCall → List EpCall
set_up_if (Some setup) calls = SetUp setup ∷ calls
set_up_if None calls = calls

-- what was met is handed on: a reset, and the newest SETUP packet behind it
abbrev pub handed_on : Met → List EpCall → List EpCall
handed_on met calls = set_up_if met.setup (reset_if met.reset calls)

-- OUT packets and IN tokens of endpoint 0
abbrev pub AreAsked : List EpCall → Type 0
AreAsked [] = Unit {0}
AreAsked (Out packet answer ∷ before) = AreAsked before
AreAsked (In answer ∷ before) = AreAsked before
AreAsked (_ ∷ before) = ⊥

-- an answer that refuses: to an IN token neither a packet nor NAK, to an OUT packet neither ACK nor NAK; and the packet that ends a read,
-- which the controller acknowledged, can't be put off
abbrev pub refuses : Bool → EpCall → Bool
refuses read (In Ack) = true
refuses read (In Stall) = true
refuses read (Out packet Stall) = true
refuses read (Out packet (Packet bytes)) = true
refuses read (Out packet Nak) = read
refuses read _ = false

-- the device refused in the session's transfer
abbrev pub has_refused : Bool → List EpCall → Bool
has_refused read [] = false
has_refused read (SetUp bytes ∷ before) = false
has_refused read (BusReset ∷ before) = false
has_refused read (call ∷ before) = refuses read call || has_refused read before

-- the host sent more OUT packets than are due in a transfer: one, the data or the packet that ends a read; and none where wLength is 0
abbrev pub is_undue : List ℕ → List (List ℕ) → Bool
is_undue setup [] = false
is_undue setup (packet ∷ []) = word_at setup 6 == 0
is_undue setup (packet ∷ earlier ∷ before) = true

-- a stall has its cause in the transfer
abbrev pub HasCause : List ℕ → List (List ℕ) → List EpCall → Type 0
HasCause setup outs calls = (has_refused (is_read setup) calls ≡ true) ⊎ (is_undue setup outs ≡ true)

-- an IN token is due: not all is given; and of a write the device heard the data, of another transfer no OUT packet
abbrev pub is_in_due : List ℕ → List (List ℕ) → List (List ℕ) → Bool
is_in_due setup given [] = not (all_given setup given) && not (is_write setup)
is_in_due setup given (packet ∷ before) = not (all_given setup given) && is_write setup

-- the device is asked for what is due alone, is told only packets that the host sent in the transfer, and nothing more once it refused
abbrev pub AsksDue : List ℕ → List (List ℕ) → List EpCall → Type 0
AsksDue setup outs [] = Unit {0}
AsksDue setup outs (SetUp bytes ∷ before) = Unit {0}
AsksDue setup outs (BusReset ∷ before) = Unit {0}
AsksDue setup outs (In answer ∷ before) =
    (has_refused (is_read setup) before ≡ false) × (is_in_due setup (given_of before) (heard_of before) ≡ true) × AsksDue setup outs before
AsksDue setup outs (Out packet answer ∷ before) =
    (has_refused (is_read setup) before ≡ false) × ((after rest : List (List ℕ)) × (outs ≡ after ++ (packet ∷ rest))) × AsksDue setup outs before
AsksDue setup outs (Polled answer ∷ before) = AsksDue setup outs before

-- what is due was asked for last in this call, and the device put it off
abbrev pub PutOffNow : Bus → List EpCall → List EpCall → Type 0
PutOffNow b calls since =
    (last_0 since ≡ Some (In Nak)) ⊎ ((packet : List ℕ) × (last_0 since ≡ Some (Out packet Nak)) × (outs_of b.seen ≡ packet ∷ heard_of calls))

-- why IN tokens are answered by NAK: no transfer is under way; the device put it off; something came that the next call looks at; the
-- host is to send the data of a write; all is given, and the host has it; or the host ended the read, and the device heard it
pub data NaksFor (b : Bus) (calls since : List EpCall) : Type 0 where
  idle : asked_of calls ≡ None → NaksFor b calls since
  puts_off : PutOffNow b calls since → NaksFor b calls since
  was_taken : b.met.taken ≡ true → NaksFor b calls since
  has_come : (packet : List ℕ) → b.met.out ≡ Some packet → NaksFor b calls since
  awaits_data : (setup : List ℕ) → asked_of calls ≡ Some setup → is_write setup ≡ true → write_of b.seen ≡ None → NaksFor b calls since
  has_given : (setup : List ℕ) → asked_of calls ≡ Some setup → all_given setup (given_of calls) ≡ true → NaksFor b calls since
  was_ended : (setup packet : List ℕ) (before : List (List ℕ)) → asked_of calls ≡ Some setup → is_read setup ≡ true → heard_of calls ≡ packet ∷ before → NaksFor b calls since

-- why OUT packets are answered by NAK
pub data NaksOutFor (b : Bus) (calls since : List EpCall) : Type 0 where
  idle_out : asked_of calls ≡ None → NaksOutFor b calls since
  puts_off_out : PutOffNow b calls since → NaksOutFor b calls since
  has_come_out : (packet : List ℕ) → b.met.out ≡ Some packet → NaksOutFor b calls since

-- why either is stalled
abbrev pub StallsFor : Bus → List EpCall → Type 0
StallsFor b calls = (setup : List ℕ) × (asked_of calls ≡ Some setup) × HasCause setup (outs_of b.seen) calls

abbrev pub InFor : InMode → Bus → List EpCall → List EpCall → Type 0
InFor Naks b calls since = NaksFor b calls since
InFor (Sends packet has) b calls since = Unit {0}
InFor Stalls b calls since = StallsFor b calls

abbrev pub OutFor : OutMode → Bus → List EpCall → List EpCall → Type 0
OutFor NaksOut b calls since = NaksOutFor b calls since
OutFor Takes b calls since = Unit {0}
OutFor StallsOut b calls since = StallsFor b calls

-- the device heard each OUT packet that the controller took: but for one that the next call looks at, or that it put off; or the transfer
-- is refused
pub data Hears (b : Bus) (calls since : List EpCall) : Type 0 where
  heard_all : outs_of b.seen ≡ heard_of calls → Hears b calls since
  heard_but_new : (packet : List ℕ) → b.met.out ≡ Some packet → outs_of b.seen ≡ packet ∷ heard_of calls → Hears b calls since
  heard_but_put_off : (packet : List ℕ) → last_0 since ≡ Some (Out packet Nak) → outs_of b.seen ≡ packet ∷ heard_of calls → Hears b calls since
  has_stalled : StallsFor b calls → Hears b calls since

-- the buffers of endpoint 0 answer as the device did: `calls` are its session, and `since` what it was asked in this call
pub record Answers (b : Bus) (calls since : List EpCall) : Type 0 where
  -- the host's transfer is the session's
  pub setup : setup_of b.seen ≡ asked_of calls
  -- the packet in the buffer is the next one of the device, and the host got those before it
  pub hands : Hands b.input (got_of b.seen) (given_of calls)
  -- NAK and STALL have their reasons
  pub input : InFor b.input b calls since
  pub output : OutFor b.output b calls since
  -- where the device refused, both are stalled (section 8.5.3.4)
  pub refused : (setup : List ℕ) → asked_of calls ≡ Some setup → has_refused (is_read setup) calls ≡ true → (b.input ≡ Stalls) × (b.output ≡ StallsOut)
  -- the device heard what the host sent, and was asked for nothing else
  pub hears : (setup : List ℕ) → asked_of calls ≡ Some setup → Hears b calls since
  pub due : (setup : List ℕ) → asked_of calls ≡ Some setup → AsksDue setup (outs_of b.seen) calls

-- the device hears that the host has the status packet: where it is known to have all of a transfer that is no read, that is done
abbrev pub HearsEnd : Bool → Bus → List EpCall → Type 0
HearsEnd done b calls =
    (setup : List ℕ) → is_pending b.met ≡ false → asked_of calls ≡ Some setup → is_read setup ≡ false → all_given setup (given_of calls) ≡ true
    → b.input ≡ Naks → b.met.taken ≡ false → done ≡ true

-- all that the host had sent at a moment of the call was handed on, and then the device was asked, in this call; and the buffers answer so,
-- unless a SETUP packet or a reset has come that was not looked at
abbrev pub Looks : Bus → Bus → List EpCall → List EpCall → Type 0
Looks b new calls later =
    (steps : List Bus) × (mid : Bus) × (since : List EpCall) × Goes steps b mid × Grows mid.seen new.seen
    × (later ≡ since ++ handed_on mid.met calls) × AreAsked since × (is_pending new.met ≡ false → Answers new later since)
