use Rattle.std.proofs.Common.{◌∷◌, ◌++◌, ap, ◌∙◌}
use Rattle.usb_device.specs.Events.{OutCame}
use Rattle.usb_device.proofs.Layering.{stays_bides}
use Rattle.usb_device.proofs.Pausing.{unsent_out}
use Rattle.usb_device.proofs.device.DeviceEndpoints.out.Goals as goal

pub returns-clause-kept : goal.returns-clause-kept
returns-clause-kept g c = λ from k.
    let e = c.take.ensures in (
      λ base x. e.kept base (k.0 base x),
      λ lent past h. (let y = k.1 lent past h in (
        OutCame c.args.packet.now c.take.result ∷ y.0,
        e.met lent (y.0 ++ past) y.1,
        y.2,
        λ u. unsent_out lent c.args.packet.now c.take.result (y.0 ++ past) (g.B.Buffers.bus c.args.self.now.buffers) (g.B.Buffers.bus c.take.new.self.buffers) (ap g.B.Buffers.bus e.buffers) (y.3 u),
        stays_bides _ _ _ _ (ap g.B.Buffers.bus e.buffers) y.4,
      )),
      e.size ∙ k.2,
    )
