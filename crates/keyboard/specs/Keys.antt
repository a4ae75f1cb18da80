-- Trusted: the calls of the keys: scans with keymap and protocol of their moment, polls, and what the host sets of them.
use Rattle.shapes.specs.Shapes.{Bytes}
use Rattle.std.specs.Prelude.{List, [], ◌∷◌}
use Rattle.control_ep.specs.declared.answer.Effect.{Effect}
use Rattle.control_ep.specs.declared.answer.Effect.TheVariants.{Nothing, Idle, SetProtocol}
use Rattle.reports.specs.Calls.{polled, idle_set, forgot, was_reset}
use Rattle.layers.specs.Codes.{DefaultCodes}
use Rattle.key_reports.specs.Calls.{KeyCall, Scanned as KeysScanned, Asked}
use Rattle.key_reports.specs.Tables.{table}
use Rattle.keyboard.specs.Calls.{Call, Scanned, In, Polled, BusReset, image_after, keymap}
use Rattle.keyboard.specs.Effects.{effect_reported, protocol_after}

-- an idle value is set; a choice of protocol, whichever it is, forgets what was sent
abbrev pub with_effect : Effect → List KeyCall → List KeyCall
with_effect Nothing calls = calls
with_effect (Idle id duration) calls = Asked (idle_set id duration) ∷ calls
with_effect (SetProtocol chosen) calls = Asked forgot ∷ calls

module _ (defaults : DefaultCodes) where
  -- the keyboard's calls as those of its keys: an IN packet is one where it has an effect, and a SETUP packet, an OUT packet
  -- or a step of the flash work is none
  unfoldable pub key_calls : Bytes → List Call → List KeyCall
  key_calls start [] = []
  key_calls start (Scanned scan ∷ before) =
      KeysScanned scan (table (keymap defaults (image_after start before))) (protocol_after before) ∷ key_calls start before
  key_calls start (Polled answer ∷ before) = Asked (polled (protocol_after before) answer) ∷ key_calls start before
  key_calls start (In answer ∷ before) = with_effect (effect_reported before answer) (key_calls start before)
  key_calls start (BusReset ∷ before) = Asked was_reset ∷ key_calls start before
  key_calls start (_ ∷ before) = key_calls start before
