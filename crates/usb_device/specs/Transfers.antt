-- Trusted where this crate is called: where the transfer of endpoint 0 stands behind buffers, and what these then hold.
use Rattle.std.specs.Prelude.{◌≡◌, ◌⊎◌, ℕ, true, false, List, [], ◌∷◌, Bool, Option, Some, None}
use Rattle.usb_device.specs.Calls.{EpCall, Polled}
use Rattle.usb_device.specs.Bus.{Bus, Stalls, Takes, StallsOut, is_pending}

-- where the transfer stands (section 8.5.3)
pub data TransferState : Type 0 where
  -- none has come since the start or a reset
  Idle : TransferState
  -- it is stalled, and that the controller is to be told, or was told
  Refused : TransferState
  Over : TransferState
  -- a read, by how many bytes may be asked for behind its packet: a packet is in the buffer, or is due, or all were taken
  Reads : ℕ → TransferState
  ReadDue : ℕ → TransferState
  Sent : TransferState
  -- a read that the host has ended: OUT is to be opened again, or is
  Closing : TransferState
  Closed : TransferState
  -- a write: OUT is to be opened, or is
  Opening : TransferState
  Writes : TransferState
  -- this packet was acknowledged on the bus, and the device did not take it yet
  Keeps : List ℕ → TransferState
  -- the empty packet of the status stage: OUT is to be opened before, or it is due, or it was handed over, or the host has it
  Asking : TransferState
  Due : TransferState
  Status : TransferState
  Done : TransferState

-- the host has the status packet of the transfer
abbrev pub is_done : TransferState → Bool
is_done Done = true
is_done _ = false

-- the device is not asked any more before the next SETUP packet
abbrev pub is_over : TransferState → Bool
is_over Idle = true
is_over Refused = true
is_over Over = true
is_over Closing = true
is_over Closed = true
is_over Status = true
is_over Done = true
is_over _ = false

-- the newest call of endpoint 0
abbrev pub last_0 : List EpCall → Option EpCall
last_0 [] = None
last_0 (Polled answer ∷ before) = last_0 before
last_0 (call ∷ before) = Some call

-- OUT is open, or a packet came that was not looked at
abbrev pub IsOpen : Bus → Type 0
IsOpen b = (b.output ≡ Takes) ⊎ ((packet : List ℕ) × (b.met.out ≡ Some packet))

-- behind a call the buffers rest: OUT stays open behind a packet that was taken, so that the controller acknowledges its repetition
-- (section 8.6.4). `Answers` says what that is to the host and to the device.
abbrev pub Rests : TransferState → Bus → Type 0
Rests Idle b = Unit {0}
Rests Over b = (b.input ≡ Stalls) × (b.output ≡ StallsOut)
Rests (ReadDue left) b = Unit {0}
Rests (Keeps packet) b = Unit {0}
Rests Refused b = ⊥
Rests Closing b = ⊥
Rests Opening b = ⊥
Rests Asking b = ⊥
Rests _ b = IsOpen b

-- it is so unless a SETUP packet or a reset has come that was not looked at
abbrev pub NothingWithheld0 : TransferState → Bus → Type 0
NothingWithheld0 t b = is_pending b.met ≡ false → Rests t b
