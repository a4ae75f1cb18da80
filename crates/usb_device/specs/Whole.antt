-- Trusted: whole control writes, by the calls of the device, newest first.
use Rattle.std.specs.Prelude.{ℕ, zero, suc, ◌≡◌, List, [], ◌∷◌, ◌++◌}
use Rattle.usb_device.specs.declared.answer.EpAnswer.{EpAnswer}
use Rattle.usb_device.specs.declared.answer.EpAnswer.TheVariants.{Ack, Nak, Packet}
use Rattle.usb_device.specs.declared.whole_transfers.TransferError.{TransferError}
use Rattle.usb_device.specs.declared.whole_transfers.TransferError.TheVariants.{Refused, Busy, Unfinished}
use Rattle.usb_device.specs.declared.whole_transfers.Status.{Status}
use Rattle.usb_device.specs.declared.whole_transfers.Status.TheVariants.{Done, Waits, Refuses}
use Rattle.usb_device.specs.Calls.{EpCall, SetUp, Out, In}
use Rattle.usb_device.specs.Confirmed.{confirmation}

-- what an answer says of the data
abbrev pub data_status_of : EpAnswer → Status
data_status_of Ack = Done
data_status_of Nak = Waits
data_status_of _ = Refuses

abbrev pub status_by : List ℕ → Status
status_by [] = Done
status_by (_ ∷ _) = Refuses

-- what an answer says in the status stage
abbrev pub status_of : EpAnswer → Status
status_of (Packet packet) = status_by packet.items
status_of Nak = Waits
status_of _ = Refuses

-- the data were acknowledged in one packet; or there are none
abbrev pub data_calls : List ℕ → List EpCall
data_calls [] = []
data_calls (byte ∷ bytes) = Out (byte ∷ bytes) Ack ∷ []

-- the status stage was put off so often
abbrev pub put_off : ℕ → List EpCall
put_off zero = []
put_off (suc count) = In Nak ∷ put_off count

-- a write whose data were taken, and whose status stage was put off so often
abbrev pub begun : List ℕ → List ℕ → ℕ → List EpCall
begun setup data_ count = put_off count ++ (data_calls data_ ++ SetUp setup ∷ [])

-- a whole write: the empty packet ends it
pub record IsWritten (setup data_ : List ℕ) (since : List EpCall) : Type 0 where
  pub count : ℕ
  pub since_is : since ≡ confirmation ∷ begun setup data_ count

-- a write that the device refused: it answered its data neither by ACK nor by NAK, or its status stage neither by the empty packet
-- nor by NAK
pub data IsRefused (setup data_ : List ℕ) (since : List EpCall) : Type 0 where
  in_data : (answer : EpAnswer) → data_status_of answer ≡ Refuses → since ≡ Out data_ answer ∷ SetUp setup ∷ [] → IsRefused setup data_ since
  in_status : (answer : EpAnswer) (count : ℕ) → status_of answer ≡ Refuses → since ≡ In answer ∷ begun setup data_ count → IsRefused setup data_ since

-- how a write failed for which the device was given so many steps: refused; or the data were put off, and nothing was taken; or its
-- data were taken, and its status stage was put off behind each step
abbrev pub FailedBy : TransferError → ℕ → List ℕ → List ℕ → List EpCall → Type 0
FailedBy Refused steps setup data_ since = IsRefused setup data_ since
FailedBy Busy steps setup data_ since = since ≡ Out data_ Nak ∷ SetUp setup ∷ []
FailedBy Unfinished steps setup data_ since = since ≡ begun setup data_ steps

-- behind each NAK of the status stage the device made a step of its work
abbrev pub WorksBehind : {E : Type 0} → (List EpCall → E → Type 0) → (E → E → Type 0) → List EpCall → List EpCall → Type 0
WorksBehind refines works past [] = Unit {0}
WorksBehind refines works past (In Nak ∷ before) =
    ((from : _) × (next : _) × refines (In Nak ∷ before ++ past) from × works from next) × WorksBehind refines works past before
WorksBehind refines works past (_ ∷ before) = WorksBehind refines works past before
