use Rattle.std.proofs.Common.{◌∷◌, ◌++◌, ap, ◌∙◌}
use Rattle.usb_device.specs.Calls.{SetUp}
use Rattle.usb_device.specs.Events.{SetupCame}
use Rattle.usb_device.specs.Through.{calls_of}
use Rattle.usb_device.proofs.Pausing.{unsent_setup}
use Rattle.usb_device.proofs.device.DeviceEndpoints.setup.Goals as goal

pub returns-clause-refines : goal.returns-clause-refines
returns-clause-refines g c = λ calls p.
    let e = c.setup.ensures in
    let b = g.B.Buffers.bus c.args.self.now.buffers in (
      p.0,
      SetupCame c.args.packet ∷ p.1,
      (e.refines p.0 p.1 p.2.0, e.session p.0 p.1 p.2.0 p.2.1, c.setup-2.ensures.linked b (calls_of p.1) p.2.2, p.2.3, c.setup-2.ensures.waits ∙ p.2.4),
      ap (λ x. SetUp c.args.packet ∷ x) p.3,
    )

pub returns-clause-kept : goal.returns-clause-kept
returns-clause-kept g c = λ from k.
    let e = c.setup.ensures in
    let b = g.B.Buffers.bus c.args.self.now.buffers in (
      λ base x. e.kept base (k.0 base x),
      λ lent past h. (let y = k.1 lent past h in
          let all = y.0 ++ past in (
            SetupCame c.args.packet ∷ y.0,
            (e.refines lent all y.1.0, e.session lent all y.1.0 y.1.1, c.setup-2.ensures.linked b (calls_of all) y.1.2, y.1.3, c.setup-2.ensures.waits ∙ y.1.4),
            y.2,
            λ u. unsent_setup lent c.args.packet all b,
            y.4,
          )),
      c.setup-2.ensures.size ∙ k.2,
    )
