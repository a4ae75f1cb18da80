use Rattle.std.proofs.Common.{refl, ◌∙◌}
use Rattle.keyboard.specs.Calls.{image_after, keymap}
use Rattle.keyboard.specs.Effects.{selected}
use Rattle.keyboard.proofs.Viewing.{feature_is, view_feature}
use Rattle.keyboard.proofs.shown.ShownDeviceReports.feature.Goals as goal

pub returns : goal.returns
returns g c view s =
    let held = c.keymap.ensures.refines (image_after s.start s.past) s.store in
    view_feature g.D.Defaults.defaults s.start s.past view _ s.view_is
    (feature_is (selected s.past) (keymap g.D.Defaults.defaults (image_after s.start s.past)) _ _ c.bits.result c.to_le_bytes.result (c.number.ensures.value ∙ s.layer) (c.number-2.ensures.value ∙ s.key)
    (c.bits.ensures.value ∙ c.get-code.ensures.entry (keymap g.D.Defaults.defaults (image_after s.start s.past)) held ∙ rw (c.number.ensures.value, c.number-2.ensures.value) refl)
    c.bits.type_inv c.to_le_bytes.ensures)
