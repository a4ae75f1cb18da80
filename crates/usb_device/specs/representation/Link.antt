-- Representation: how the bus, the session of the device and the transfer hang together.
use Rattle.std.specs.Prelude.{◌≡◌, ◌⊎◌, ℕ, ◌+◌, ◌==◌, if◌then◌else◌, length, Bool, true, false, List, [], ◌∷◌, ◌++◌, Option, Some, None}
use Rattle.usb_device.specs.declared.control_buffers.Transfer as Kept
use Rattle.usb_device.specs.declared.controller.Waiting.{Waiting}
use Rattle.std.specs.Option.{option_map}
use Rattle.usb_device.specs.declared.answer.EpAnswer.{EpAnswer}
use Rattle.usb_device.specs.declared.answer.EpAnswer.TheVariants.{Ack, Nak}
use Rattle.usb_device.specs.Calls.{EpCall, Out, In}
use Rattle.usb_device.specs.Requests.{word_at}
use Rattle.usb_device.specs.Bus.{Bus, Met, Goes, InMode, Naks, Sends, Stalls, OutMode, NaksOut, Takes, StallsOut, is_pending, is_write, setup_of, write_of, has_ended}
use Rattle.usb_device.specs.Transfers.{TransferState, Idle, Refused, Over, Reads, ReadDue, Sent, Closing, Closed, Opening, Writes, Keeps, Asking, Due, Status, Done, last_0, Rests}
use Rattle.usb_device.specs.Confirmed.{asked_of, taken_of, ConfirmedBefore, AllKept}
use Rattle.usb_device.specs.WholeReads.{joined}
use Rattle.usb_device.specs.Given.{is_read, got_of, outs_of, given_of, heard_of, all_given, Hands, AllGiven}
use Rattle.usb_device.specs.Served.{Grows, handed_on, AreAsked, HasCause, AsksDue, has_refused, is_undue, is_in_due}

abbrev pub transfer_view : Kept.Transfer → TransferState
transfer_view Kept.TheVariants.Idle = Idle
transfer_view Kept.TheVariants.Refused = Refused
transfer_view Kept.TheVariants.Over = Over
transfer_view (Kept.TheVariants.Reads left) = Reads left
transfer_view (Kept.TheVariants.ReadDue left) = ReadDue left
transfer_view Kept.TheVariants.Sent = Sent
transfer_view Kept.TheVariants.Closing = Closing
transfer_view Kept.TheVariants.Closed = Closed
transfer_view Kept.TheVariants.Opening = Opening
transfer_view Kept.TheVariants.Writes = Writes
transfer_view (Kept.TheVariants.Kept packet) = Keeps packet.items
transfer_view Kept.TheVariants.Asking = Asking
transfer_view Kept.TheVariants.Due = Due
transfer_view Kept.TheVariants.Status = Status
transfer_view Kept.TheVariants.Done = Done

abbrev pub met_view : Waiting → Met
met_view w = record { reset = w.reset; setup = w.setup; out = option_map (λ p. p.items) w.out; taken = w.taken }

-- no packet is in the buffer
abbrev pub IsQuiet : InMode → Type 0
IsQuiet (Sends packet has) = ⊥
IsQuiet _ = Unit {0}

-- no OUT packet is taken
abbrev pub IsClosed : OutMode → Type 0
IsClosed Takes = ⊥
IsClosed _ = Unit {0}

abbrev pub ClosedIf : Option (List ℕ) → OutMode → Type 0
ClosedIf (Some packet) mode = IsClosed mode
ClosedIf None mode = Unit {0}

-- the transfer under way was confirmed, and no data were acknowledged since
abbrev pub IsConfirmedNow : List EpCall → Type 0
IsConfirmedNow calls =
    (setup data_ : List ℕ) → asked_of calls ≡ Some setup → taken_of calls ≡ Some data_ → ConfirmedBefore [] setup data_ calls

-- an empty packet in the buffer confirms
abbrev pub ConfirmsIf : InMode → List EpCall → Type 0
ConfirmsIf (Sends [] has) calls = IsConfirmedNow calls
ConfirmsIf _ calls = Unit {0}

-- the packet that the host's write counts by is the one that the device took
abbrev pub IsSame : Bus → List EpCall → Type 0
IsSame b calls = (data_ : List ℕ) × (write_of b.seen ≡ Some data_) × (taken_of calls ≡ Some data_)

-- of a control write, by its stage
abbrev pub StageLink : TransferState → Bus → List EpCall → Type 0
StageLink Idle b calls = IsQuiet b.input
StageLink Refused b calls = IsQuiet b.input ⊎ (ConfirmsIf b.input calls × IsSame b calls)
StageLink Over b calls = IsQuiet b.input
StageLink Opening b calls = IsQuiet b.input × IsClosed b.output × (write_of b.seen ≡ None) × (taken_of calls ≡ None) × (b.met.out ≡ None) × (has_ended b.seen ≡ false)
StageLink Writes b calls = IsQuiet b.input × (write_of b.seen ≡ b.met.out) × ClosedIf b.met.out b.output × (taken_of calls ≡ None) × (has_ended b.seen ≡ false)
StageLink (Keeps packet) b calls = IsQuiet b.input × IsClosed b.output × (write_of b.seen ≡ Some packet) × (taken_of calls ≡ None) × (has_ended b.seen ≡ false)
StageLink Due b calls = IsQuiet b.input × IsSame b calls
StageLink Status b calls = ConfirmsIf b.input calls × IsSame b calls
StageLink Done b calls = ConfirmsIf b.input calls × IsSame b calls
StageLink _ b calls = ⊥

-- nothing is stalled
abbrev pub GoesOn : InMode → OutMode → Type 0
GoesOn Stalls output = ⊥
GoesOn input StallsOut = ⊥
GoesOn input output = Unit {0}

-- behind a packet of a read so many bytes may be asked for
abbrev pub Leaves : ℕ → List ℕ → List (List ℕ) → Type 0
Leaves left setup given =
    ((left ≡ 0) × (all_given setup given ≡ true))
    ⊎ ((left ≡ 0 → ⊥) × (all_given setup given ≡ false) × (left + length (joined given) ≡ word_at setup 6))

-- no further OUT packet is due
abbrev pub NoneDue : List ℕ → List (List ℕ) → Type 0
NoneDue setup heard = is_undue setup ([] ∷ heard) ≡ true

-- no packet is in the buffer of IN, and none was taken that was not looked at
abbrev pub IsFree : InMode → Bool → Type 0
IsFree input taken = (input ≡ Naks) × (taken ≡ false)

-- a packet is in it; or it was taken, and that was not looked at
abbrev pub IsGiven : InMode → Bool → Type 0
IsGiven input taken = ((packet : List ℕ) × (has : Bool) × (input ≡ Sends packet has) × (taken ≡ false)) ⊎ ((input ≡ Naks) × (taken ≡ true))

-- what the buffers hold, by the stage of the transfer
abbrev pub BufferIn : TransferState → InMode → OutMode → Bool → Type 0
BufferIn Idle input output taken = Unit {0}
BufferIn Refused input output taken = Unit {0}
BufferIn Over input output taken = Unit {0}
BufferIn Closing input output taken = GoesOn input output
BufferIn Closed input output taken = GoesOn input output
BufferIn (Reads left) input output taken = IsGiven input taken × GoesOn input output
BufferIn Status input output taken = IsGiven input taken × GoesOn input output
BufferIn _ input output taken = IsFree input taken × GoesOn input output

-- what the device was asked and answered in the transfer of this SETUP packet, by its stage
abbrev pub PastIn : TransferState → List ℕ → List (List ℕ) → List EpCall → Type 0
PastIn Idle s outs calls = ⊥
PastIn Refused s outs calls = HasCause s outs calls
PastIn Over s outs calls = HasCause s outs calls
PastIn (Reads left) s outs calls = (is_read s ≡ true) × (heard_of calls ≡ []) × Leaves left s (given_of calls)
PastIn (ReadDue left) s outs calls = (is_read s ≡ true) × (heard_of calls ≡ []) × (all_given s (given_of calls) ≡ false) × (left + length (joined (given_of calls)) ≡ word_at s 6)
PastIn Sent s outs calls = (is_read s ≡ true) × (all_given s (given_of calls) ≡ true)
PastIn Closing s outs calls = (is_read s ≡ true) × (packet : List ℕ) × (before : List (List ℕ)) × (heard_of calls ≡ packet ∷ before)
PastIn Closed s outs calls = (is_read s ≡ true) × (packet : List ℕ) × (before : List (List ℕ)) × (heard_of calls ≡ packet ∷ before)
PastIn Opening s outs calls = (is_write s ≡ true) × (given_of calls ≡ [])
PastIn Writes s outs calls = (is_write s ≡ true) × (given_of calls ≡ [])
PastIn (Keeps packet) s outs calls = (is_write s ≡ true) × (given_of calls ≡ [])
PastIn Asking s outs calls = (is_read s ≡ false) × NoneDue s (heard_of calls) × (is_in_due s (given_of calls) (heard_of calls) ≡ true)
PastIn Due s outs calls = (is_read s ≡ false) × NoneDue s (heard_of calls) × (is_in_due s (given_of calls) (heard_of calls) ≡ true)
PastIn Status s outs calls = NoneDue s (heard_of calls) × (all_given s (given_of calls) ≡ true)
PastIn Done s outs calls = NoneDue s (heard_of calls) × (all_given s (given_of calls) ≡ true)

-- the device heard the OUT packets of the transfer, but for one that was not looked at; or the host sent too many
abbrev pub HeardBy : List ℕ → Option (List ℕ) → List (List ℕ) → List (List ℕ) → Type 0
HeardBy s None outs heard = (is_undue s outs ≡ true) ⊎ (outs ≡ heard)
HeardBy s (Some packet) outs heard = (rest : List (List ℕ)) × (outs ≡ packet ∷ rest) × ((is_undue s outs ≡ true) ⊎ (rest ≡ heard))

-- the same of a write, where it sent no more than one
abbrev pub OnlyBy : Option (List ℕ) → List (List ℕ) → List (List ℕ) → Type 0
OnlyBy None outs heard = outs ≡ heard
OnlyBy (Some packet) outs heard = outs ≡ packet ∷ heard

-- and but for one that the device did not take yet
abbrev pub HeardIn : TransferState → List ℕ → Option (List ℕ) → OutMode → List (List ℕ) → List (List ℕ) → Type 0
HeardIn Refused s out output outs heard = Unit {0}
HeardIn Over s out output outs heard = Unit {0}
HeardIn (Keeps packet) s out output outs heard = (out ≡ None) × IsClosed output × (outs ≡ packet ∷ heard)
HeardIn Opening s out output outs heard = (out ≡ None) × IsClosed output × (outs ≡ heard)
HeardIn Writes s out output outs heard = ClosedIf out output × OnlyBy out outs heard
HeardIn t s out output outs heard = HeardBy s out outs heard

-- the device refused only where the transfer is refused
abbrev pub SoundIn : TransferState → Bool → Type 0
SoundIn Refused refused = Unit {0}
SoundIn Over refused = Unit {0}
SoundIn t refused = refused ≡ false

pub record StandsOf (t : TransferState) (s : List ℕ) (b : Bus) (calls : List EpCall) : Type 0 where
  pub asked : asked_of calls ≡ Some s
  pub buffer : BufferIn t b.input b.output b.met.taken
  pub past : PastIn t s (outs_of b.seen) calls
  pub heard : HeardIn t s b.met.out b.output (outs_of b.seen) (heard_of calls)
  pub due : AsksDue s (outs_of b.seen) calls
  pub sound : SoundIn t (has_refused (is_read s) calls)

-- no transfer, or this one
abbrev pub Stands : TransferState → Bus → List EpCall → Type 0
Stands t b calls = ((t ≡ Idle) × (asked_of calls ≡ None) × (b.input ≡ Naks) × (b.output ≡ NaksOut)) ⊎ ((s : List ℕ) × StandsOf t s b calls)

-- a SETUP packet or a reset has come: the buffers are empty
pub record Fresh (b : Bus) : Type 0 where
  pub input : b.input ≡ Naks
  pub output : b.output ≡ NaksOut
  pub setup : setup_of b.seen ≡ b.met.setup
  pub write : write_of b.seen ≡ None
  pub ended : has_ended b.seen ≡ false
  pub got : got_of b.seen ≡ []
  pub outs : outs_of b.seen ≡ []

-- the host's transfer is the session's
pub record Current (t : TransferState) (b : Bus) (calls : List EpCall) : Type 0 where
  pub setup : setup_of b.seen ≡ asked_of calls
  pub stage : (setup : List ℕ) → setup_of b.seen ≡ Some setup → is_write setup ≡ true → StageLink t b calls
  pub hands : Hands b.input (got_of b.seen) (given_of calls)
  pub stands : Stands t b calls

pub record Link (t : TransferState) (b : Bus) (calls : List EpCall) : Type 0 where
  pub kept : AllKept b.seen calls
  pub given : AllGiven b.seen calls
  pub fresh : is_pending b.met ≡ true → Fresh b
  pub current : is_pending b.met ≡ false → Current t b calls

-- something is to be done at once
abbrev pub IsBegun : TransferState → Type 0
IsBegun (ReadDue left) = Unit {0}
IsBegun Opening = Unit {0}
IsBegun Asking = Unit {0}
IsBegun _ = ⊥

-- what holds once it is looked at what was met, before anything is done
abbrev pub Ready : TransferState → Bus → Type 0
Ready Refused b = Unit {0}
Ready (ReadDue left) b = Unit {0}
Ready Closing b = Unit {0}
Ready Opening b = Unit {0}
Ready (Keeps packet) b = is_pending b.met ≡ false
Ready Asking b = Unit {0}
Ready t b = Rests t b

-- on top of those calls the device was asked these
abbrev pub Asks : List EpCall → List EpCall → Type 0
Asks calls later = (since : List EpCall) × (later ≡ since ++ calls) × AreAsked since

-- what the transfer waits for was asked for last among these, and put off
abbrev pub PutOff : TransferState → List EpCall → Type 0
PutOff (ReadDue left) since = last_0 since ≡ Some (In Nak)
PutOff Due since = last_0 since ≡ Some (In Nak)
PutOff (Keeps packet) since = last_0 since ≡ Some (Out packet Nak)
PutOff _ since = Unit {0}

-- and the transfer waits for nothing that these did not ask for
abbrev pub AsksNow : TransferState → List EpCall → List EpCall → Type 0
AsksNow t calls later = (since : List EpCall) × (later ≡ since ++ calls) × AreAsked since × PutOff t since

-- all that the host had sent at a moment of the call was handed on, and then the device was asked
abbrev pub LooksAs : TransferState → Bus → Bus → List EpCall → List EpCall → Type 0
LooksAs t b new calls later =
    (steps : List Bus) × (mid : Bus) × Goes steps b mid × Grows mid.seen new.seen × AsksNow t (handed_on mid.met calls) later

-- behind the device's answer to the OUT packet that ends a read
abbrev pub ended : EpAnswer → TransferState
ended Ack = Closing
ended _ = Refused

-- a read that goes on
abbrev pub is_reading : TransferState → Bool
is_reading (Reads left) = true
is_reading (ReadDue left) = true
is_reading Sent = true
is_reading _ = false

-- the host has taken the packet
abbrev pub on_taken : TransferState → TransferState
on_taken (Reads left) = if left == 0 then Sent else ReadDue left
on_taken Status = Done
on_taken t = t
