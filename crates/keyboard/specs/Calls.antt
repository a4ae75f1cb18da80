-- Trusted: what a keyboard was asked since its start, and what it answered.
use Rattle.shapes.specs.Shapes.{Bytes}
use Rattle.std.specs.Prelude.{ℕ, Option, None, Some, List, [], ◌∷◌}
use Rattle.debounce.specs.declared.Scan.{Scan}
use Rattle.control_ep.specs.declared.answer.EpAnswer.{EpAnswer}
use Rattle.layers.specs.Codes.{DefaultCodes}
use Rattle.keymap_store.specs.declared.store.Work.{Work}
use Rattle.keymap_store.specs.Keymap.{entries_of}

-- a call of a keyboard
pub data Call : Type 0 where
  -- a scan of the matrix
  Scanned : (scan : Scan) → Call
  -- a SETUP packet on endpoint 0
  SetUp : (bytes : Bytes) → Call
  -- an OUT packet on endpoint 0, and its answer
  Out : (packet : Bytes) → (answer : EpAnswer) → Call
  -- the answer to an IN packet on endpoint 0
  In : (answer : EpAnswer) → Call
  -- the bytes that a poll of endpoint 1 was answered, if any
  Polled : (answer : Option Bytes) → Call
  -- a step of the flash work: its answer, and the flash's image after it
  Worked : (work : Work) → (image : Bytes) → Call
  -- a reset of the bus
  BusReset : Call

-- the flash's image after these calls, newest first: no call but a step of the flash work changes it
abbrev pub image_after : Bytes → List Call → Bytes
image_after start [] = start
image_after start (Worked work image ∷ before) = image
image_after start (_ ∷ before) = image_after start before

module _ (defaults : DefaultCodes) where
  -- the keymap of an image: the commands among the words of the active page, read by its format; the last writer of an
  -- entry decides
  abbrev pub keymap : Bytes → ℕ → ℕ → ℕ
  keymap image = entries_of defaults image

-- the SETUP packet of the transfer under way; none before the first one, and after a bus reset
abbrev pub setup_of : List Call → Option Bytes
setup_of [] = None
setup_of (SetUp bytes ∷ before) = Some bytes
setup_of (BusReset ∷ before) = None
setup_of (_ ∷ before) = setup_of before

-- something holds of each call and of what came before it
abbrev pub EachCall : (Bytes → List Call → Call → Type 0) → Bytes → List Call → Type 0
EachCall P start [] = Unit {0}
EachCall P start (call ∷ before) = P start before call × EachCall P start before
