-- What a SETUP packet is answered from.
use Rattle.std.proofs.Common.{◌≡◌, ℕ, ◌<◌, ◌%◌, ◌/◌, List, [], ◌∷◌, refl, sym, ap, ◌∙◌, get_or, arith}
use Rattle.reports.specs.declared.Protocol.{Protocol}
use Rattle.reports.specs.declared.Input.TheVariants.{Boot, One, Two}
use Rattle.reports.specs.Poll.{idle_value}
use Rattle.layers.specs.Codes.{DefaultCodes}
use Rattle.key_reports.specs.Past.{wanted_after, poller_calls}
use Rattle.control_ep.specs.declared.answer.DeviceView.{DeviceView}
use Rattle.keyboard.specs.Calls.{Call, image_after, keymap}
use Rattle.keyboard.specs.Effects.{Entry, leds_after, selected, protocol_after}
use Rattle.keyboard.specs.Keys.{key_calls}
use Rattle.keyboard.specs.Endpoint.{feature_report, view_after}

low_byte : (code : ℕ) (bytes : List ℕ) → bytes ≡ code % 256 ∷ code / 256 % 256 ∷ [] → get_or bytes 0 0 ≡ code % 256
low_byte code bytes e = rw e refl

high_byte : (code : ℕ) (bytes : List ℕ) → code < 65536 → bytes ≡ code % 256 ∷ code / 256 % 256 ∷ [] → get_or bytes 1 0 ≡ code / 256
high_byte code bytes l e = rw e (omega (arith, l))

pub feature_is : (entry : Entry) (entries : ℕ → ℕ → ℕ) (layer key code : ℕ) (bytes : List ℕ) → layer ≡ entry.layer → key ≡ entry.key → code ≡ entries layer key → code < 65536
    → bytes ≡ code % 256 ∷ code / 256 % 256 ∷ [] → 3 ∷ 0 ∷ layer ∷ key ∷ get_or bytes 0 0 ∷ get_or bytes 1 0 ∷ [] ≡ feature_report entry entries
feature_is entry entries layer key code bytes l k c f e =
    let is : code ≡ entries entry.layer entry.key = c ∙ rw (l, k) refl in
    rw (low_byte code bytes e, high_byte code bytes f e, is, l, k) refl

module _ (defaults : DefaultCodes) where
  -- each part of the view after a session
  pub view_protocol : (start : List ℕ) (past : List Call) (view : DeviceView) (x : Protocol) → view ≡ view_after defaults start past → x ≡ protocol_after past → x ≡ view.protocol
  unfolding view_after
  view_protocol start past view x v e = e ∙ sym (ap (λ (d : DeviceView). d.protocol) v)

  pub view_idle_one : (start : List ℕ) (past : List Call) (view : DeviceView) (x : ℕ) → view ≡ view_after defaults start past → x ≡ idle_value One (poller_calls (key_calls defaults start past)) → x ≡ view.idle_one
  unfolding view_after
  view_idle_one start past view x v e = e ∙ sym (ap (λ (d : DeviceView). d.idle_one) v)

  pub view_idle_two : (start : List ℕ) (past : List Call) (view : DeviceView) (x : ℕ) → view ≡ view_after defaults start past → x ≡ idle_value Two (poller_calls (key_calls defaults start past)) → x ≡ view.idle_two
  unfolding view_after
  view_idle_two start past view x v e = e ∙ sym (ap (λ (d : DeviceView). d.idle_two) v)

  pub view_leds : (start : List ℕ) (past : List Call) (view : DeviceView) (x : ℕ) → view ≡ view_after defaults start past → x ≡ leds_after past → x ≡ view.leds
  unfolding view_after
  view_leds start past view x v e = e ∙ sym (ap (λ (d : DeviceView). d.leds) v)

  pub view_feature : (start : List ℕ) (past : List Call) (view : DeviceView) (x : List ℕ) → view ≡ view_after defaults start past → x ≡ feature_report (selected past) (keymap defaults (image_after start past)) → x ≡ view.feature
  unfolding view_after
  view_feature start past view x v e = e ∙ sym (ap (λ (d : DeviceView). d.feature) v)

  pub view_bitmap : (start : List ℕ) (past : List Call) (view : DeviceView) (x : List ℕ) → view ≡ view_after defaults start past → x ≡ wanted_after (key_calls defaults start past) One → x ≡ view.bitmap
  unfolding view_after
  view_bitmap start past view x v e = e ∙ sym (ap (λ (d : DeviceView). d.bitmap) v)

  pub view_consumer : (start : List ℕ) (past : List Call) (view : DeviceView) (x : List ℕ) → view ≡ view_after defaults start past → x ≡ wanted_after (key_calls defaults start past) Two → x ≡ view.consumer
  unfolding view_after
  view_consumer start past view x v e = e ∙ sym (ap (λ (d : DeviceView). d.consumer) v)

  pub view_boot : (start : List ℕ) (past : List Call) (view : DeviceView) (x : List ℕ) → view ≡ view_after defaults start past → x ≡ wanted_after (key_calls defaults start past) Boot → x ≡ view.boot
  unfolding view_after
  view_boot start past view x v e = e ∙ sym (ap (λ (d : DeviceView). d.boot) v)
