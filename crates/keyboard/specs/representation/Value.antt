-- Representation: what contracts see of a keyboard.
use Rattle.shapes.specs.Shapes.{Bytes}
use Rattle.std.specs.Prelude.{ℕ, Option}
use Rattle.layers.specs.Codes.{DefaultCodes}
use Rattle.layers.specs.declared.command.Command.{Command}
use Rattle.reports.specs.declared.Protocol.{Protocol}
use Rattle.control_ep.specs.Transfers.{Stage}
use Rattle.key_reports.specs.representation.Value.{KeysValue}
use Rattle.keymap_store.specs.Value.{StoreValue}
use Rattle.keymap_store.specs.Store.{working}
use Rattle.keymap_store.specs.representation.Store.{Mirrors}

-- the endpoint's stage, the keys, the store, the protocol, the LEDs, and layer and key of the selected entry
pub record KeyboardValue : Type 0 where
  pub ep : Stage
  pub keys : KeysValue
  pub store : StoreValue
  pub protocol : Protocol
  pub leds : ℕ
  pub layer : ℕ
  pub key : ℕ

module _ (defaults : DefaultCodes) where
  -- the keyboard runs on a flash with this image: the one that it started on, as it has left it
  abbrev pub RunsOn : Bytes → KeyboardValue → Type 0
  RunsOn image keyboard = Mirrors defaults image keyboard.store

-- the command that works, if one does
abbrev pub at_work : KeyboardValue → Option Command
at_work keyboard = working keyboard.store.job
