-- Representation: the data stage of a whole control read.
use Rattle.std.specs.Prelude.{ℕ, ◌≡◌, List, ◌∷◌, length}
use Rattle.usb_device.specs.declared.answer.EpAnswer.{EpAnswer}
use Rattle.usb_device.specs.declared.answer.EpAnswer.TheVariants.{Nak}
use Rattle.usb_device.specs.declared.whole_transfers.TransferError.{TransferError}
use Rattle.usb_device.specs.declared.whole_transfers.TransferError.TheVariants.{Refused, Busy, Unfinished}
use Rattle.usb_device.specs.Calls.{EpCall, In}
use Rattle.usb_device.specs.WholeReads.{in_calls, GoOn, AreWhole, IsNoPacket, most_packets}

-- the bytes came
abbrev pub Receives : ℕ → List ℕ → List EpCall → Type 0
Receives asked bytes since = (packets : List (List ℕ)) × AreWhole asked bytes packets × (since ≡ in_calls packets)

-- or not
abbrev pub NotReceived : TransferError → ℕ → List EpCall → Type 0
NotReceived Refused asked since = (answer : EpAnswer) × (packets : List (List ℕ)) × IsNoPacket answer × GoOn asked packets × (since ≡ In answer ∷ in_calls packets)
NotReceived Busy asked since = (packets : List (List ℕ)) × GoOn asked packets × (since ≡ In Nak ∷ in_calls packets)
NotReceived Unfinished asked since = (packets : List (List ℕ)) × GoOn asked packets × (length packets ≡ most_packets) × (since ≡ in_calls packets)
