-- A keyboard that starts.
use Rattle.std.proofs.Common.{◌≡◌, ℕ, ◌+◌, None, List, [], drop, refl}
use Rattle.reports.specs.declared.Protocol.TheVariants.{Report}
use Rattle.layers.specs.Codes.{DefaultCodes}
use Rattle.key_reports.specs.representation.Value.{KeysValue}
use Rattle.key_reports.specs.representation.Relation as key_reports
use Rattle.control_ep.specs.Transfers.{Stage}
use Rattle.control_ep.specs.representation.Relation as control_ep
use Rattle.keymap_store.specs.Value.{StoreValue}
use Rattle.keymap_store.specs.Store.{working as working_in}
use Rattle.keymap_store.specs.representation.Store.{Mirrors}
use Rattle.keymap_store.specs.Left.{left, Needs}
use Rattle.keymap_store.specs.Operations.{operations_of}
use Rattle.keymap_store.specs.representation.Rest.{rest_of}
use Rattle.keyboard.specs.Effects.{leds_after, selected, protocol_after}
use Rattle.keyboard.specs.Keys.{key_calls}
use Rattle.keyboard.specs.Commands.{accepted, working}
use Rattle.keyboard.specs.Endpoint.{ep_calls}
use Rattle.keyboard.specs.Bounded.{steps_since, accepted_image}
use Rattle.keyboard.specs.representation.Relation.{Refines}
use Rattle.keyboard.proofs.Bounding.{nothing_left, nothing_needed, none_works}

module _ (defaults : DefaultCodes) where
  pub refines_first : (image : List ℕ) (ep : Stage) (keys : KeysValue) (store : StoreValue) (layer key : ℕ) → control_ep.Refines [] ep → key_reports.Refines [] keys → Mirrors defaults image store → working_in store.job ≡ None → layer ≡ 0 → key ≡ 0
      → Refines defaults image [] (record { ep = ep; keys = keys; store = store; protocol = Report; leds = 0; layer = layer; key = key })
  unfolding ep_calls key_calls leds_after selected protocol_after accepted working
  refines_first image ep keys store layer key e k m r l i = record {
    now = record {
      ep = e;
      keys = k;
      store = m;
      works = r;
      protocol = refl;
      leds = refl;
      layer = l;
      key = i;
      few = λ w. nothing_left (working_in store.job) (left defaults image store + steps_since []) r w;
      needs = λ w. nothing_needed (working_in store.job) (Needs defaults (accepted_image image []) (left defaults image store + steps_since [])) r w;
      order = λ command w. none_works (working_in store.job) command (drop (steps_since []) (operations_of defaults (accepted_image image []) command) ≡ rest_of defaults image store) r w;
    };
    answered = tt;
  }
