use Rattle.std.proofs.lemmas.Grind.{common_steps}
use Rattle.std.proofs.Common.{arith, [], ◌∷◌, refl, sym, ◌∙◌, inl, inr}
use Rattle.usb_device.specs.Calls.{In}
use Rattle.usb_device.proofs.Moving.{read_nak, read_else, read_hands}
use Rattle.usb_device.proofs.Standing.{LeavesBy}
use Rattle.usb_device.proofs.Addressing.{stays_then}
use Rattle.usb_device.proofs.Looking.{grows_then}
use Rattle.usb_device.proofs.Resting.{hands, opens}
use Rattle.usb_device.proofs.control_buffers.ControlBuffers.read.Goals.{then-len-eq8, else-len-eq8}
use Rattle.usb_device.proofs.control_buffers.ControlBuffers.read.Goals as goal

pub returns-after-len-eq8-clause-linked : goal.returns-after-len-eq8-clause-linked
returns-after-len-eq8-clause-linked g c = λ calls s h.
    let o = c.open.ensures.set in
    let i = c.hand_over.ensures.set in
    let left = c.if-len-eq8.left in
    let p = c.in-Packet.packet.items in
    let bus = g.C.Controller.bus in
    let opened = opens o.1 (bus c.open.new.controller) o.3 in
    let leaves : LeavesBy c.args.left left p =
    elim c.if-len-eq8.branch [ then-len-eq8 w ↦ inl (sym c.len.ensures.value ∙ w.if-len-eq8.true, w.left-is ∙ w.saturating_sub-left.ensures) | else-len-eq8 w ↦ inr (grind (arith, common_steps, w.if-len-eq8.false, c.len.ensures.value, c.len.ensures.fits), w.left-is) ]
    in (
      In c.in_packet.result ∷ calls,
      c.in_packet.ensures.refines calls s,
      rw c.in-Packet.is (read_hands o.0 o.1 (bus c.args.controller.now) (bus c.open.new.controller) i.0 i.1 (bus c.hand_over.new.controller) c.args.left left p calls o.2 o.3 i.2 i.3 leaves h),
      hands i.0 (bus c.open.new.controller) i.1 (bus c.hand_over.new.controller) p i.2 i.3 opened,
      (In c.in_packet.result ∷ [], refl, tt, tt),
    )

pub returns-in-Nak-clause-linked : goal.returns-in-Nak-clause-linked
returns-in-Nak-clause-linked g c = λ calls s h.
    (In c.in_packet.result ∷ calls, c.in_packet.ensures.refines calls s, rw c.in-Nak.is (read_nak c.args.left _ calls h), λ q. tt, (In c.in_packet.result ∷ [], refl, tt, rw c.in-Nak.is refl))

pub returns-in-Ack-clause-linked : goal.returns-in-Ack-clause-linked
returns-in-Ack-clause-linked g c = λ calls s h.
    let after = In c.in_packet.result ∷ calls in
    let r = c.refuse.ensures in
    (after, c.in_packet.ensures.refines calls s, rw r.over (r.linked after (read_else c.args.left _ c.in_packet.result calls c.in-Ack.is h)), rw r.over r.reported, rw r.over (In c.in_packet.result ∷ [], refl, tt, tt))

pub returns-after-len-eq8-clause-stays : goal.returns-after-len-eq8-clause-stays
returns-after-len-eq8-clause-stays g c =
    let b = g.C.Controller.bus in
    let a = g.C.Controller.address_of in
    let old = c.args.controller.now in
    let mid = c.open.new.controller in
    let new = c.hand_over.new.controller in
    stays_then (b old) (b mid) (b new) (a old) (a mid) (a new) c.open.ensures.stays c.hand_over.ensures.stays

pub returns-after-len-eq8-clause-grows : goal.returns-after-len-eq8-clause-grows
returns-after-len-eq8-clause-grows g c =
    let b = g.C.Controller.bus in grows_then (b c.args.controller.now).seen (b c.open.new.controller).seen (b c.hand_over.new.controller).seen c.open.ensures.grows c.hand_over.ensures.grows
