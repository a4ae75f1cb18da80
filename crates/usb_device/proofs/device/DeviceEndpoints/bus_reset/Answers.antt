use Rattle.std.proofs.Common.{[], ◌∷◌, ◌++◌, refl, inl, sym, ap, subst, ◌∙◌}
use Rattle.usb_device.specs.Calls.{BusReset}
use Rattle.usb_device.specs.Events.{ResetCame}
use Rattle.usb_device.specs.Bus1.{Bus1, none}
use Rattle.usb_device.specs.Through.{calls_of}
use Rattle.usb_device.specs.representation.Link1.{Link1, InStep}
use Rattle.usb_device.proofs.Pausing.{unsent_reset}
use Rattle.usb_device.proofs.device.DeviceEndpoints.bus_reset.Goals as goal

pub returns-clause-refines : goal.returns-clause-refines
returns-clause-refines g c = λ calls p.
    let e = c.bus_reset.ensures in
    let P : Bus1 → Type 0 = λ x. Link1 c.reset.new.self x (BusReset ∷ calls_of p.1) × InStep [] x in
    let q = subst P (sym c.forget.ensures) (c.reset.ensures.linked (calls_of p.1), λ _. none) in
    (p.0, ResetCame ∷ p.1, (e.refines p.0 p.1 p.2.0, e.session p.0 p.1 p.2.0 p.2.1, q.0, q.1, c.reset.ensures.waits), ap (λ x. BusReset ∷ x) p.3)

pub returns-clause-kept : goal.returns-clause-kept
returns-clause-kept g c = λ from k.
    let e = c.bus_reset.ensures in (
      λ base x. e.kept base (k.0 base x),
      λ lent past h. (let y = k.1 lent past h in
          let all = y.0 ++ past in
          let P : Bus1 → Type 0 = λ x. Link1 c.reset.new.self x (BusReset ∷ calls_of all) × InStep [] x in
          let q = subst P (sym c.forget.ensures) (c.reset.ensures.linked (calls_of all), λ _. none) in
          (ResetCame ∷ y.0, (e.refines lent all y.1.0, e.session lent all y.1.0 y.1.1, q.0, q.1, c.reset.ensures.waits), y.2, λ u. unsent_reset lent all (g.B.Buffers.bus c.forget.new.self), inl refl)),
      c.reset.ensures.size ∙ k.2,
    )
