-- Representation: what a SETUP packet is answered from.
use Rattle.shapes.specs.Shapes.{Bytes}
use Rattle.std.specs.Prelude.{◌≡◌, List}
use Rattle.control_ep.specs.declared.answer.DeviceView.{DeviceView}
use Rattle.layers.specs.Codes.{DefaultCodes}
use Rattle.key_reports.specs.representation.Relation as key_reports
use Rattle.keymap_store.specs.representation.Store.{Mirrors}
use Rattle.keyboard.specs.declared.shown.Shown.{Shown}
use Rattle.keyboard.specs.Calls.{Call, image_after}
use Rattle.keyboard.specs.Effects.{leds_after, selected, protocol_after}
use Rattle.keyboard.specs.Keys.{key_calls}
use Rattle.keyboard.specs.Endpoint.{view_after}

module _ (defaults : DefaultCodes) where
  -- the parts refine a session, and the view is the one after it
  pub record Shows {D : Type 0} (shown : Shown D) (view : DeviceView) : Type 0 where
    pub start : Bytes
    pub past : List Call
    pub keys : key_reports.Refines (key_calls defaults start past) shown.keys.now
    pub store : Mirrors defaults (image_after start past) shown.store.now
    pub protocol : shown.protocol ≡ protocol_after past
    pub leds : shown.leds ≡ leds_after past
    pub layer : shown.layer ≡ (selected past).layer
    pub key : shown.key ≡ (selected past).key
    pub view_is : view ≡ view_after defaults start past
