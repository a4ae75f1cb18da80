use Rattle.std.proofs.Common.{[], ◌∷◌, refl}
use Rattle.usb_device.specs.Calls.{In}
use Rattle.usb_device.specs.Transfers.{Due}
use Rattle.usb_device.proofs.Moving.{handed, due_nak, due_else}
use Rattle.usb_device.proofs.Resting.{hands}
use Rattle.usb_device.proofs.control_buffers.ControlBuffers.confirm.Goals as goal

pub returns-in-Packet-clause-linked : goal.returns-in-Packet-clause-linked
returns-in-Packet-clause-linked g c = λ calls s h o.
    let p = c.in-Packet.packet.items in
    let i = c.hand_over.ensures.set in (
      In c.in_packet.result ∷ calls,
      c.in_packet.ensures.refines calls s,
      rw c.in-Packet.is (handed i.0 i.1 _ _ Due p calls refl h i.2 i.3),
      hands i.0 (g.C.Controller.bus c.args.controller.now) i.1 (g.C.Controller.bus c.hand_over.new.controller) p i.2 i.3 o,
      (In c.in_packet.result ∷ [], refl, tt, tt),
    )

pub returns-in-Nak-clause-linked : goal.returns-in-Nak-clause-linked
returns-in-Nak-clause-linked g c = λ calls s h o.
    (In c.in_packet.result ∷ calls, c.in_packet.ensures.refines calls s, rw c.in-Nak.is (due_nak _ Due calls refl h), o, (In c.in_packet.result ∷ [], refl, tt, rw c.in-Nak.is refl))

pub returns-in-Ack-clause-linked : goal.returns-in-Ack-clause-linked
returns-in-Ack-clause-linked g c = λ calls s h o.
    let after = In c.in_packet.result ∷ calls in
    let r = c.refuse.ensures in
    (after, c.in_packet.ensures.refines calls s, rw r.over (r.linked after (due_else _ Due c.in_packet.result calls refl c.in-Ack.is h)), rw r.over r.reported, rw r.over (In c.in_packet.result ∷ [], refl, tt, tt))
