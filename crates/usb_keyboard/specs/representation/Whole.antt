-- Representation: the parts of a whole control transfer.
use Rattle.shapes.specs.Shapes.{Bytes}
use Rattle.std.specs.Prelude.{◌≡◌, ℕ, List, [], ◌∷◌, ◌++◌, length}
use Rattle.layers.specs.Codes.{DefaultCodes}
use Rattle.control_ep.specs.declared.answer.EpAnswer.{EpAnswer as Answer}
use Rattle.control_ep.specs.declared.answer.EpAnswer.TheVariants.{Nak}
use Rattle.keymap_store.specs.declared.store.Work.{Work}
use Rattle.keyboard.specs.Acknowledged.{confirmation}
use Rattle.keyboard.specs.Bounded.{IsInTime}
use Rattle.keyboard.specs.Calls.{Call, Out, In}
use Rattle.usb_device.specs.declared.whole_transfers.Status.{Status}
use Rattle.usb_device.specs.declared.whole_transfers.Status.TheVariants.{Done, Waits, Refuses}
use Rattle.usb_device.specs.declared.whole_transfers.TransferError.{TransferError}
use Rattle.usb_device.specs.declared.whole_transfers.TransferError.TheVariants.{Refused, Busy, Unfinished}
use Rattle.usb_device.specs.Whole.{data_status_of, status_of}
use Rattle.usb_device.specs.WholeReads.{GoOn, AreWhole, IsNoPacket, most_packets}
use Rattle.usb_keyboard.specs.Plain.{plain}
use Rattle.usb_keyboard.specs.Whole.{put_off, data_calls, in_calls}

-- there are data
abbrev pub HasData : Bytes → Type 0
HasData [] = ⊥
HasData (byte ∷ bytes) = Unit {0}

-- the data stage
abbrev pub Gives : Status → Bytes → List Call → Type 0
Gives Done data_ since = since ≡ data_calls data_
Gives Waits data_ since = HasData data_ × (since ≡ Out data_ Nak ∷ [])
Gives Refuses data_ since = HasData data_ × (answer : Answer) × (data_status_of (plain answer) ≡ Refuses) × (since ≡ Out data_ answer ∷ [])

-- the status stage that was confirmed
abbrev pub IsStatusStage : List Call → Type 0
IsStatusStage since = (steps : List (Work × Bytes)) × (since ≡ confirmation ∷ put_off steps)

module _ (defaults : DefaultCodes) where
  -- before the last of these steps the command at work, if there was one, was in time
  abbrev pub WasInTime : Bytes → List Call → List (Work × Bytes) → Type 0
  WasInTime start past [] = Unit {0}
  WasInTime start past (step ∷ before) = IsInTime defaults start (put_off before ++ past)

  -- and one that was not
  abbrev pub NotConfirmed : Bytes → List Call → TransferError → List Call → Type 0
  NotConfirmed start past Refused since = (answer : Answer) × (steps : List (Work × Bytes)) × (status_of (plain answer) ≡ Refuses) × (since ≡ In answer ∷ put_off steps)
  NotConfirmed start past Busy since = ⊥
  NotConfirmed start past Unfinished since = (steps : List (Work × Bytes)) × (length steps ≡ 388) × WasInTime start past steps × (since ≡ put_off steps)

-- the data stage of a read: the bytes came
abbrev pub Receives : ℕ → Bytes → List Call → Type 0
Receives asked bytes since = (packets : List Bytes) × AreWhole asked bytes packets × (since ≡ in_calls packets)

-- or not
abbrev pub NotReceived : TransferError → ℕ → List Call → Type 0
NotReceived Refused asked since = (answer : Answer) × (packets : List Bytes) × IsNoPacket (plain answer) × GoOn asked packets × (since ≡ In answer ∷ in_calls packets)
NotReceived Busy asked since = (packets : List Bytes) × GoOn asked packets × (since ≡ In Nak ∷ in_calls packets)
NotReceived Unfinished asked since = (packets : List Bytes) × GoOn asked packets × (length packets ≡ most_packets) × (since ≡ in_calls packets)
