-- Trusted: whole control reads, by the calls of the device, newest first (USB 2.0 sections 5.5.3 and 8.5.3).
use Rattle.std.specs.Prelude.{ℕ, ◌≡◌, ◌≢◌, ◌||◌, not, nat_lt, Bool, true, false, List, [], ◌∷◌, ◌++◌, length}
use Rattle.usb_device.specs.declared.answer.EpAnswer.{EpAnswer}
use Rattle.usb_device.specs.declared.answer.EpAnswer.TheVariants.{Ack, Nak, Packet, Stall}
use Rattle.usb_device.specs.declared.whole_transfers.TransferError.{TransferError}
use Rattle.usb_device.specs.declared.whole_transfers.TransferError.TheVariants.{Refused, Busy, Unfinished}
use Rattle.usb_device.specs.Calls.{EpCall, SetUp, Out, In}
use Rattle.usb_device.specs.Requests.{word_at}

-- IN tokens that were answered by these packets, newest first
abbrev pub in_calls : List (List ℕ) → List EpCall
in_calls [] = []
in_calls (packet ∷ before) = In (Packet (record { items = packet })) ∷ in_calls before

-- the bytes of these packets, in their order
abbrev pub joined : List (List ℕ) → List ℕ
joined [] = []
joined (packet ∷ before) = joined before ++ packet

-- the newest packet ends a read of so many bytes: it has fewer than 8, or all that were asked for are there
abbrev pub is_last : ℕ → List ℕ → List (List ℕ) → Bool
is_last asked packet before = nat_lt (length packet) 8 || not (nat_lt (length (joined before ++ packet)) asked)

-- none of these packets ends it
abbrev pub GoOn : ℕ → List (List ℕ) → Type 0
GoOn asked [] = Unit {0}
GoOn asked (packet ∷ before) = (is_last asked packet before ≡ false) × GoOn asked before

-- the packets of a read, up to the one that ends it, are these bytes
pub record AreWhole (asked : ℕ) (bytes : List ℕ) (packets : List (List ℕ)) : Type 0 where
  pub last : List ℕ
  pub before : List (List ℕ)
  pub packets_are : packets ≡ last ∷ before
  pub ends : is_last asked last before ≡ true
  pub go_on : GoOn asked before
  pub bytes_are : bytes ≡ joined packets

-- a whole read: the device gave these bytes, and acknowledged the empty packet of the status stage
pub record IsRead (setup bytes : List ℕ) (since : List EpCall) : Type 0 where
  pub packets : List (List ℕ)
  pub whole : AreWhole (word_at setup 6) bytes packets
  pub since_is : since ≡ Out [] Ack ∷ in_calls packets ++ (SetUp setup ∷ [])

-- an answer to an IN token that is neither a packet nor NAK
abbrev pub IsNoPacket : EpAnswer → Type 0
IsNoPacket Ack = Unit {0}
IsNoPacket Stall = Unit {0}
IsNoPacket _ = ⊥

-- a read that was refused: it asks for nothing, and the device was not asked; or the device gave no packet; or it did not take the
-- empty packet of the status stage
pub data IsReadRefused (setup : List ℕ) (since : List EpCall) : Type 0 where
  no_data : word_at setup 6 ≡ 0 → since ≡ [] → IsReadRefused setup since
  no_packet : (answer : EpAnswer) (packets : List (List ℕ)) → IsNoPacket answer → GoOn (word_at setup 6) packets → since ≡ In answer ∷ in_calls packets ++ (SetUp setup ∷ [])
      → IsReadRefused setup since
  not_closed : (answer : EpAnswer) (bytes : List ℕ) (packets : List (List ℕ)) → answer ≢ Ack → AreWhole (word_at setup 6) bytes packets
      → since ≡ Out [] answer ∷ in_calls packets ++ (SetUp setup ∷ []) → IsReadRefused setup since

-- the most packets of a read
abbrev pub most_packets : ℕ
most_packets = 13

-- how a read failed: refused; or a packet was put off; or it went on behind the most packets
abbrev pub FailsToRead : TransferError → List ℕ → List EpCall → Type 0
FailsToRead Refused setup since = IsReadRefused setup since
FailsToRead Busy setup since = (packets : List (List ℕ)) × GoOn (word_at setup 6) packets × (since ≡ In Nak ∷ in_calls packets ++ (SetUp setup ∷ []))
FailsToRead Unfinished setup since = (packets : List (List ℕ)) × GoOn (word_at setup 6) packets × (length packets ≡ most_packets) × (since ≡ in_calls packets ++ (SetUp setup ∷ []))
