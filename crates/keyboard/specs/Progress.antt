-- Trusted: how a command is served where nothing is in its way.
use Rattle.shapes.specs.Shapes.{Bytes}
use Rattle.std.specs.Prelude.{◌≡◌, ◌≢◌, ℕ, if◌then◌else◌, None, List, [], ◌∷◌, length}
use Rattle.layers.specs.Codes.{DefaultCodes}
use Rattle.layers.specs.declared.command.Command.{Command}
use Rattle.page_turnover.specs.Usable.{IsUsable}
use Rattle.control_ep.specs.declared.answer.EpAnswer.{EpAnswer}
use Rattle.control_ep.specs.declared.answer.EpAnswer.TheVariants.{Ack, Nak, Packet}
use Rattle.keymap_store.specs.declared.store.Work.TheVariants.{Working, Settled, Failed}
use Rattle.keymap_store.specs.Operations.{operations_of}
use Rattle.keymap_store.specs.Submits.{IsWorn}
use Rattle.keyboard.specs.Bounded.{counted}
use Rattle.keyboard.specs.Calls.{Call, SetUp, Out, In, Worked, BusReset, image_after, keymap}
use Rattle.keyboard.specs.Commands.{working}
use Rattle.keyboard.specs.Fate.{changes}

-- the SETUP packet of SET_REPORT for the feature report, ID 3, with its six bytes (HID 1.11 section 7.2.2)
abbrev pub set_feature : Bytes
set_feature = 0x21 ∷ 0x09 ∷ 0x03 ∷ 0x03 ∷ 0 ∷ 0 ∷ 6 ∷ 0 ∷ []

module _ (defaults : DefaultCodes) where
  -- nothing is in the way of a command: each slot 0 is sound, the flash is not worn, and no command works
  pub record IsReady (start : Bytes) (past : List Call) : Type 0 where
    pub sound : IsUsable (image_after start past)
    pub not_worn : IsWorn (image_after start past) → ⊥
    pub rests : working defaults start past ≡ None

-- steps of the flash work and nothing between them, none of which failed
abbrev pub AreWhole : List Call → Type 0
AreWhole [] = Unit {0}
AreWhole (Worked work image ∷ before) = (work ≢ Failed) × AreWhole before
AreWhole (_ ∷ before) = ⊥

module _ (defaults : DefaultCodes) where
  -- how many steps a command takes: one for each of its operations, and none where it changes nothing
  abbrev pub steps_for : Bytes → Command → ℕ
  steps_for image command = if changes defaults (keymap defaults image) command then length (operations_of defaults image command) else 0

-- how many steps of the flash work are among these calls
abbrev pub steps_in : List Call → ℕ
steps_in [] = 0
steps_in (call ∷ before) = counted call (steps_in before)

-- the calls, newest first, leave a packet of data due: of endpoint 0 nothing came but OUT packets that were answered NAK
abbrev pub StaysDue : List Call → Type 0
StaysDue [] = Unit {0}
StaysDue (SetUp bytes ∷ before) = ⊥
StaysDue (Out packet answer ∷ before) = (answer ≡ Nak) × StaysDue before
StaysDue (In answer ∷ before) = ⊥
StaysDue (BusReset ∷ before) = ⊥
StaysDue (_ ∷ before) = StaysDue before

-- the calls, newest first, leave a status stage due: of endpoint 0 nothing came but IN packets, none of them answered by the
-- empty packet
abbrev pub StaysOpen : List Call → Type 0
StaysOpen [] = Unit {0}
StaysOpen (SetUp bytes ∷ before) = ⊥
StaysOpen (Out packet answer ∷ before) = ⊥
StaysOpen (In answer ∷ before) = (answer ≢ Packet (record { items = [] })) × StaysOpen before
StaysOpen (BusReset ∷ before) = ⊥
StaysOpen (_ ∷ before) = StaysOpen before

-- each of these steps is answered Working
abbrev pub AllWork : List Call → Type 0
AllWork [] = Unit {0}
AllWork (Worked work image ∷ before) = (work ≡ Working) × AllWork before
AllWork (_ ∷ before) = ⊥

-- the last of these steps, if there are any, is answered Settled, and each before it Working
abbrev pub EndSettled : List Call → Type 0
EndSettled [] = Unit {0}
EndSettled (Worked work image ∷ before) = (work ≡ Settled) × AllWork before
EndSettled (_ ∷ before) = ⊥

-- a command is served: its packet is acknowledged, its steps end it, and its status stage is the empty packet
pub record IsServed (given : EpAnswer) (steps : List Call) (status : EpAnswer) : Type 0 where
  pub acknowledged : given ≡ Ack
  pub stored : EndSettled steps
  pub confirmed : status ≡ Packet (record { items = [] })
