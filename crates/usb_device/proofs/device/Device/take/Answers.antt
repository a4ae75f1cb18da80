use Rattle.std.proofs.Common.{◌∷◌, refl, ap}
use Rattle.usb_device.specs.Calls.{Out}
use Rattle.usb_device.specs.Events.{OutCame}
use Rattle.usb_device.specs.Through.{calls_of}
use Rattle.usb_device.proofs.Reporting.{same_reports}
use Rattle.usb_device.proofs.device.Device.take.Goals as goal

pub returns-clause-refines : goal.returns-clause-refines
returns-clause-refines g c = λ calls p.
    let call = Out c.args.packet.now c.out_packet.result in
    let e = c.out_packet.ensures in (
      p.0,
      OutCame c.args.packet.now c.out_packet.result ∷ p.1,
      (e.refines p.0 p.1 p.2.0, e.session p.0 p.1 p.2.0 p.2.1, same_reports _ _ (calls_of p.1) (call ∷ calls_of p.1) p.2.2 refl refl, p.2.3, p.2.4),
      ap (λ x. call ∷ x) p.3,
    )

pub returns-clause-met : goal.returns-clause-met
returns-clause-met g c = λ lent past h.
    let call = Out c.args.packet.now c.out_packet.result in
    let e = c.out_packet.ensures in
    (e.refines lent past h.0, e.session lent past h.0 h.1, same_reports _ _ (calls_of past) (call ∷ calls_of past) h.2 refl refl, h.3, h.4)
