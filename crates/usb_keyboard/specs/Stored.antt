-- Trusted: a feature command on the bus, and what a keyboard has of it over power losses.
use Rattle.shapes.specs.Shapes.{Bytes}
use Rattle.std.specs.Prelude.{◌≡◌, ℕ, Some, None, List, [], ◌∷◌, ◌++◌, drop}
use Rattle.std.specs.Result.{result_ok}
use Rattle.layers.specs.Codes.{DefaultCodes}
use Rattle.layers.specs.Entries.{written}
use Rattle.layers.specs.declared.command.Command.{Command}
use Rattle.control_ep.specs.Transfers.{FeatureData}
use Rattle.keyboard.specs.Acknowledged.{NoneAcceptedWrites}
use Rattle.keyboard.specs.Calls.{Call, image_after, keymap}
use Rattle.keyboard.specs.Commands.{accepts}
use Rattle.keyboard.specs.Effects.{report_named}
use Rattle.keyboard.specs.Feature.{command_of_bytes}
use Rattle.keyboard.specs.Sessions.{Session, MayLeave}
use Rattle.usb_device.specs.Bus.{Seen}
use Rattle.usb_device.specs.Confirmed.{WasSent}

-- the SETUP packet is SET_REPORT of the feature report, and the data behind its ID are this command, of operation 1 to 3
pub record Brings (setup data_ : Bytes) (command : Command) : Type 0 where
  pub named : report_named (Some setup) ≡ Some FeatureData
  pub read : result_ok (command_of_bytes (drop 1 data_)) ≡ Some command

-- the host sent a command, in one of these transfers
pub record IsSent (sent : List Seen) (command : Command) : Type 0 where
  pub setup : Bytes
  pub data_ : Bytes
  pub was_sent : WasSent setup data_ sent
  pub brings : Brings setup data_ command

-- each command that these calls, newest first, accepted on top of a past is one that the host sent in these transfers
abbrev pub AllSent : List Seen → List Call → List Call → Type 0
AllSent sent [] past = Unit {0}
AllSent sent (call ∷ before) past = ((command : Command) → accepts (before ++ past) call ≡ Some command → IsSent sent command) × AllSent sent before past

module _ (defaults : DefaultCodes) where
  -- the host sent no command in these transfers that writes the entry
  abbrev pub NoneSent : List Seen → ℕ → ℕ → Type 0
  NoneSent sent layer key = (command : Command) → IsSent sent command → written defaults command layer key ≡ None

  -- no command that was accepted in these sessions writes the entry
  abbrev pub NoneWrites : List Session → ℕ → ℕ → Type 0
  NoneWrites [] layer key = Unit {0}
  NoneWrites (session ∷ earlier) layer key = NoneAcceptedWrites defaults session.past [] layer key × NoneWrites earlier layer key

  -- the flash has the code in the entry, and still has it behind a power loss
  pub record Has (start : Bytes) (past : List Call) (layer key code : ℕ) : Type 0 where
    pub now : keymap defaults (image_after start past) layer key ≡ code
    pub lost : (image : Bytes) → MayLeave defaults start past image → keymap defaults image layer key ≡ code

  -- so behind the newest of these sessions
  abbrev pub HasNow : List Session → ℕ → ℕ → ℕ → Type 0
  HasNow [] layer key code = ⊥
  HasNow (session ∷ earlier) layer key code = Has session.first session.past layer key code
