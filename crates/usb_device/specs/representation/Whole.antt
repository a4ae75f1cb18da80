-- Representation: the parts of a whole control write.
use Rattle.std.specs.Prelude.{◌≡◌, ℕ, List, [], ◌∷◌}
use Rattle.usb_device.specs.declared.answer.EpAnswer.{EpAnswer}
use Rattle.usb_device.specs.declared.answer.EpAnswer.TheVariants.{Nak}
use Rattle.usb_device.specs.declared.whole_transfers.TransferError.{TransferError}
use Rattle.usb_device.specs.declared.whole_transfers.TransferError.TheVariants.{Refused, Busy, Unfinished}
use Rattle.usb_device.specs.declared.whole_transfers.Status.{Status}
use Rattle.usb_device.specs.declared.whole_transfers.Status.TheVariants.{Done, Waits, Refuses}
use Rattle.usb_device.specs.Calls.{EpCall, Out, In}
use Rattle.usb_device.specs.Confirmed.{confirmation}
use Rattle.usb_device.specs.Whole.{data_status_of, status_of, data_calls, put_off}

-- the data stage
abbrev pub Gives : Status → List ℕ → List EpCall → Type 0
Gives Done data_ since = since ≡ data_calls data_
Gives Waits data_ since = since ≡ Out data_ Nak ∷ []
Gives Refuses data_ since = (answer : EpAnswer) × (data_status_of answer ≡ Refuses) × (since ≡ Out data_ answer ∷ [])

-- the status stage that was confirmed
abbrev pub IsConfirmed : List EpCall → Type 0
IsConfirmed since = (count : ℕ) × (since ≡ confirmation ∷ put_off count)

-- and one that was not
abbrev pub NotConfirmed : TransferError → ℕ → List EpCall → Type 0
NotConfirmed Refused steps since = (answer : EpAnswer) × (count : ℕ) × (status_of answer ≡ Refuses) × (since ≡ In answer ∷ put_off count)
NotConfirmed Busy steps since = ⊥
NotConfirmed Unfinished steps since = since ≡ put_off steps
