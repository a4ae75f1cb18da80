-- Representation: a keyboard and its flash refine the calls of their session, newest first.
use Rattle.shapes.specs.Shapes.{Bytes}
use Rattle.std.specs.Prelude.{◌≡◌, ◌<◌, ◌∷◌, ◌++◌, ℕ, Bool, Some, List}
use Rattle.layers.specs.Codes.{layers, keys, DefaultCodes}
use Rattle.layers.specs.Entries.{written}
use Rattle.layers.specs.declared.command.Command.{Command}
use Rattle.usb_device.specs.Bus.{Seen}
use Rattle.usb_device.specs.Calls.{EpCall}
use Rattle.keyboard.specs.Acknowledged.{confirmation, IsConfirmed, IsSettled, NoneAcceptedWrites}
use Rattle.keymap_store.specs.declared.store.Work.{Work}
use Rattle.keyboard.specs.Calls.{Call, Scanned, Worked, image_after}
use Rattle.keyboard.specs.representation.Relation.{Refines}
use Rattle.keyboard.specs.representation.Value.{KeyboardValue}
use Rattle.usb_keyboard.specs.Plain.{usb_calls, works_on}
use Rattle.usb_keyboard.specs.Stored.{AllSent, Has}

module _ (defaults : DefaultCodes) where
  -- of the session that began on the image `start`, and the flash is as the session left it
  pub record RunsSince (start : Bytes) (past : List Call) (keyboard : KeyboardValue) (image : Bytes) : Type 0 where
    pub refines : Refines defaults start past keyboard
    pub image_is : image_after start past ≡ image

  -- of a session with these calls of its bus
  abbrev pub RefinesUsb : List EpCall → KeyboardValue → Bytes → Type 0
  RefinesUsb calls keyboard image = (start : Bytes) × (past : List Call) × RunsSince start past keyboard image × (usb_calls past ≡ calls)

  -- the keyboard and its flash refine a session in which the command is confirmed and settled, before any that the host sent in
  -- these later transfers; and each code that it writes is in the flash, also behind a power loss, until a command that was accepted
  -- since writes the entry
  pub record IsStored (later : List Seen) (keyboard : KeyboardValue) (image : Bytes) (command : Command) : Type 0 where
    pub start : Bytes
    pub past : List Call
    pub runs : RunsSince start past keyboard image
    pub before : List Call
    pub confirmed : IsConfirmed past before command
    pub settled : IsSettled defaults start past before command
    pub since : AllSent later (confirmed.after ++ confirmation ∷ confirmed.between) (confirmed.packet ∷ before)
    pub has : (layer key code : ℕ) → layer < layers → key < keys → written defaults command layer key ≡ Some code
        → NoneAcceptedWrites defaults (confirmed.after ++ confirmation ∷ confirmed.between) (confirmed.packet ∷ before) layer key → Has defaults start past layer key code

  -- a step of the flash work, behind which another is due where it says so
  abbrev pub StepIs : KeyboardValue → Bytes → KeyboardValue → Bytes → Bool → Type 0
  StepIs old image new left due =
      (start : Bytes) (past : List Call) → RunsSince start past old image → (work : Work) × RunsSince start (Worked work left ∷ past) new left × (due ≡ works_on work)

  -- a scan of the matrix
  abbrev pub ScanIs : KeyboardValue → Bytes → List ℕ → KeyboardValue → Bytes → Type 0
  ScanIs old image rows new left =
      (start : Bytes) (past : List Call) → RunsSince start past old image → RunsSince start (Scanned (record { rows = rows }) ∷ past) new left
