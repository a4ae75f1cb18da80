-- Representation: a keyboard refines the calls of its session, newest first, on its first image.
use Rattle.shapes.specs.Shapes.{Bytes}
use Rattle.std.specs.Prelude.{◌≡◌, ◌+◌, ◌≤◌, IsSome, Some, List, drop}
use Rattle.layers.specs.Codes.{DefaultCodes}
use Rattle.layers.specs.declared.command.Command.{Command}
use Rattle.control_ep.specs.representation.Relation as control_ep
use Rattle.key_reports.specs.representation.Relation as key_reports
use Rattle.keymap_store.specs.Left.{left, Needs}
use Rattle.keymap_store.specs.Operations.{operations_of}
use Rattle.keymap_store.specs.representation.Rest.{rest_of}
use Rattle.keyboard.specs.Calls.{Call, image_after}
use Rattle.keyboard.specs.Effects.{leds_after, selected, protocol_after}
use Rattle.keyboard.specs.Keys.{key_calls}
use Rattle.keyboard.specs.Endpoint.{ep_calls}
use Rattle.keyboard.specs.Commands.{working}
use Rattle.keyboard.specs.Bounded.{most_steps, steps_since, accepted_image}
use Rattle.keyboard.specs.Conforming.{IsConforming}
use Rattle.keyboard.specs.Sessions.{Session, StartsAfter, Follow}
use Rattle.keyboard.specs.representation.Value.{KeyboardValue, RunsOn, at_work}

module _ (defaults : DefaultCodes) where
  -- a clause for each field: each part refines its own calls among them
  pub record PartsRefine (start : Bytes) (past : List Call) (keyboard : KeyboardValue) : Type 0 where
    pub ep : control_ep.Refines (ep_calls defaults start past) keyboard.ep
    pub keys : key_reports.Refines (key_calls defaults start past) keyboard.keys
    pub store : RunsOn defaults (image_after start past) keyboard
    pub works : at_work keyboard ≡ working defaults start past
    pub protocol : keyboard.protocol ≡ protocol_after past
    pub leds : keyboard.leds ≡ leds_after past
    pub layer : keyboard.layer ≡ (selected past).layer
    pub key : keyboard.key ≡ (selected past).key
    pub few : IsSome (at_work keyboard) → left defaults (image_after start past) keyboard.store + steps_since past ≤ most_steps
    pub needs : IsSome (at_work keyboard) → Needs defaults (accepted_image start past) (left defaults (image_after start past) keyboard.store + steps_since past)
    pub order : (command : Command) → at_work keyboard ≡ Some command → drop (steps_since past) (operations_of defaults (accepted_image start past) command) ≡ rest_of defaults (image_after start past) keyboard.store

  -- and each call so far was answered as it had to be
  pub record Refines (start : Bytes) (past : List Call) (keyboard : KeyboardValue) : Type 0 where
    pub now : PartsRefine start past keyboard
    pub answered : IsConforming defaults start past

  -- so in the session after these, newest first
  pub record RefinesAfter (earlier : List Session) (now : Session) (keyboard : KeyboardValue) : Type 0 where
    pub refines : Refines now.first now.past keyboard
    pub starts : StartsAfter defaults now.first earlier
    pub were : Follow defaults earlier
