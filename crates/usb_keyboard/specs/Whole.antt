-- Trusted: whole control transfers of a keyboard, by their calls, newest first.
use Rattle.shapes.specs.Shapes.{Bytes}
use Rattle.std.specs.Prelude.{◌≡◌, ◌<◌, ℕ, Some, List, [], ◌∷◌, ◌++◌}
use Rattle.layers.specs.Codes.{layers, keys, DefaultCodes}
use Rattle.layers.specs.Entries.{written}
use Rattle.layers.specs.declared.command.Command.{Command}
use Rattle.control_ep.specs.declared.answer.EpAnswer.{EpAnswer as Answer}
use Rattle.control_ep.specs.declared.answer.EpAnswer.TheVariants.{Ack, Nak, Packet, Stall}
use Rattle.control_ep.specs.declared.why.Why.{Why}
use Rattle.control_ep.specs.Requests.{request_of}
use Rattle.keymap_store.specs.declared.store.Work.{Work}
use Rattle.keyboard.specs.Acknowledged.{confirmation}
use Rattle.keyboard.specs.Calls.{Call, SetUp, Out, In, Worked}
use Rattle.keyboard.specs.Commands.{accepted}
use Rattle.keyboard.specs.Fate.{failed}
use Rattle.usb_device.specs.declared.whole_transfers.Status.TheVariants.{Refuses}
use Rattle.usb_device.specs.declared.whole_transfers.TransferError.{TransferError}
use Rattle.usb_device.specs.declared.whole_transfers.TransferError.TheVariants.{Refused, Busy, Unfinished}
use Rattle.usb_device.specs.Whole.{data_status_of, status_of}
use Rattle.usb_device.specs.WholeReads.{AreWhole}
use Rattle.usb_keyboard.specs.Plain.{plain}
use Rattle.usb_keyboard.specs.Stored.{Brings, Has}

-- IN packets that were answered by NAK, with a step of the flash work behind each: its answer, and the image that it left
abbrev pub put_off : List (Work × Bytes) → List Call
put_off [] = []
put_off (step ∷ before) = Worked step.0 step.1 ∷ In Nak ∷ put_off before

-- the data were acknowledged in one packet; or there are none
abbrev pub data_calls : Bytes → List Call
data_calls [] = []
data_calls (byte ∷ bytes) = Out (byte ∷ bytes) Ack ∷ []

-- a write whose data were taken, and whose status stage was put off for these steps
abbrev pub begun : Bytes → Bytes → List (Work × Bytes) → List Call
begun setup data_ steps = put_off steps ++ (data_calls data_ ++ SetUp setup ∷ [])

-- a whole control write: its SETUP packet, its data, and the empty packet that ends its status stage
pub record IsWritten (setup data_ : Bytes) (since : List Call) : Type 0 where
  pub steps : List (Work × Bytes)
  pub since_is : since ≡ confirmation ∷ begun setup data_ steps

-- a write that was refused: in its data, or in its status stage. The answer there is a STALL; or, where the request reads, the first
-- packet of what it reads, which is no answer to a write, and then nothing is stalled
pub data IsRefused (setup data_ : Bytes) (since : List Call) : Type 0 where
  in_data : (answer : Answer) → data_status_of (plain answer) ≡ Refuses → since ≡ Out data_ answer ∷ SetUp setup ∷ [] → IsRefused setup data_ since
  in_status : (answer : Answer) (steps : List (Work × Bytes)) → status_of (plain answer) ≡ Refuses → since ≡ In answer ∷ begun setup data_ steps → IsRefused setup data_ since

-- how it failed: refused; or its data were put off, while another command works. It is never unfinished: no command takes longer
abbrev pub Fails : TransferError → Bytes → Bytes → List Call → Type 0
Fails Refused setup data_ since = IsRefused setup data_ since
Fails Busy setup data_ since = since ≡ Out data_ Nak ∷ SetUp setup ∷ []
Fails Unfinished setup data_ since = ⊥

-- IN packets that were answered by these packets, newest first
abbrev pub in_calls : List Bytes → List Call
in_calls [] = []
in_calls (packet ∷ before) = In (Packet (record { items = packet })) ∷ in_calls before

-- a whole control read: its SETUP packet, the packets of these bytes, and the empty packet of the status stage, acknowledged
pub record IsRead (setup bytes : Bytes) (since : List Call) : Type 0 where
  pub packets : List Bytes
  pub whole : AreWhole (request_of setup).length bytes packets
  pub since_is : since ≡ Out [] Ack ∷ in_calls packets ++ (SetUp setup ∷ [])

-- a read that was refused: its request asks for no byte, and no call was made; or the first IN packet was stalled
pub data IsUnread (setup : Bytes) (since : List Call) : Type 0 where
  not_asked : (request_of setup).length ≡ 0 → since ≡ [] → IsUnread setup since
  stalled : (why : Why) → since ≡ In (Stall why) ∷ SetUp setup ∷ [] → IsUnread setup since

module _ (defaults : DefaultCodes) where
  -- nothing came of it: no command was accepted, or the one that was failed
  pub data HasNoEffect (start : Bytes) (past since : List Call) : Type 0 where
    none_accepted : accepted defaults start (since ++ past) ≡ accepted defaults start past → HasNoEffect start past since
    has_failed : (command : Command) → accepted defaults start (since ++ past) ≡ accepted defaults start past ++ record { command = command; fate = failed } ∷ []
        → HasNoEffect start past since

  -- each code that the data's command writes is in the flash, also behind a power loss
  abbrev pub Stores : Bytes → List Call → Bytes → Bytes → Type 0
  Stores start past setup data_ =
      (command : Command) (layer key code : ℕ) → Brings setup data_ command → layer < layers → key < keys → written defaults command layer key ≡ Some code
      → Has defaults start past layer key code
