use Rattle.std.proofs.Common.{[], ◌∷◌, refl, sym, ap, subst, ◌∙◌, ◌≡◌}
use Rattle.usb_device.specs.Calls.{Out}
use Rattle.usb_device.specs.Transfers.{TransferState, Refused, Closing, Opening, Keeps, Asking, Rests}
use Rattle.usb_device.specs.representation.Link.{AsksNow, Ready, Link, transfer_view}
use Rattle.usb_device.proofs.Moving.{opened, asking_due, closed_again, offered_ack, offered_nak, offered_else}
use Rattle.usb_device.proofs.Looking.{asks_more}
use Rattle.usb_device.proofs.Resting.{opens}
use Rattle.usb_device.proofs.control_buffers.ControlBuffers.go_on.Goals as goal

pub returns-in-Opening-clause-linked : goal.returns-in-Opening-clause-linked
returns-in-Opening-clause-linked g c = λ calls s h r.
    let o = c.open.ensures.set in
    let t : c.args.self.now ≡ Opening = sym c.self.view_is ∙ ap transfer_view c.in-Opening.is in
    (calls, s, opened o.0 o.1 _ _ c.args.self.now calls o.2 o.3 t h, opens o.1 (g.C.Controller.bus c.open.new.controller) o.3, ([], refl, tt, tt))

pub returns-in-Ack-clause-linked : goal.returns-in-Ack-clause-linked
returns-in-Ack-clause-linked g c = λ calls s h r.
    let p = c.as_slice.result.now in
    let t : c.args.self.now ≡ Keeps p = sym c.self.view_is ∙ ap transfer_view c.in-Kept.is ∙ ap Keeps (sym c.as_slice.ensures.value) in
    let R : TransferState → Type 0 = λ x. Ready x (g.C.Controller.bus c.args.controller.now) in
    let after = Out p c.out.result ∷ calls in
    let x = c.ask.ensures.linked after (c.out.ensures.refines calls s) (rw c.in-Ack.is (offered_ack _ c.args.self.now p calls t (subst R t r) h)) in
    (x.0, x.1, x.2, x.3, asks_more _ calls after x.0 (Out p c.out.result ∷ [], refl, tt) x.4)

pub returns-in-Nak-clause-linked : goal.returns-in-Nak-clause-linked
returns-in-Nak-clause-linked g c = λ calls s h r.
    let p = c.as_slice.result.now in
    let t : c.args.self.now ≡ Keeps p = sym c.self.view_is ∙ ap transfer_view c.in-Kept.is ∙ ap Keeps (sym c.as_slice.ensures.value) in
    let later = Out p c.out.result ∷ calls in
    let R : TransferState → Type 0 = λ x. Rests x (g.C.Controller.bus c.args.controller.now) in
    let A : TransferState → Type 0 = λ x. AsksNow x calls later in
    (later, c.out.ensures.refines calls s, rw c.in-Nak.is (offered_nak _ c.args.self.now p calls t h), λ q. subst R (sym t) tt, subst A (sym t) (Out p c.out.result ∷ [], refl, tt, rw c.in-Nak.is refl))

pub returns-in-Packet-clause-linked : goal.returns-in-Packet-clause-linked
returns-in-Packet-clause-linked g c = λ calls s h r.
    let p = c.as_slice.result.now in
    let t : c.args.self.now ≡ Keeps p = sym c.self.view_is ∙ ap transfer_view c.in-Kept.is ∙ ap Keeps (sym c.as_slice.ensures.value) in
    let after = Out p c.out.result ∷ calls in
    let R : TransferState → Type 0 = λ x. Ready x (g.C.Controller.bus c.args.controller.now) in
    let e = c.refuse.ensures in (
      after,
      c.out.ensures.refines calls s,
      rw e.over (e.linked after (offered_else _ c.args.self.now p c.out.result calls t (subst R t r) c.in-Packet.is h)),
      rw e.over e.reported,
      rw e.over (Out p c.out.result ∷ [], refl, tt, tt),
    )

pub returns-in-Asking-clause-linked : goal.returns-in-Asking-clause-linked
returns-in-Asking-clause-linked g c = λ calls s h r.
    let t : c.args.self.now ≡ Asking = sym c.self.view_is ∙ ap transfer_view c.in-Asking.is in
    c.ask-in-Asking.ensures.linked calls s (asking_due c.args.self.now _ calls t h)

pub returns-in-Closing-clause-linked : goal.returns-in-Closing-clause-linked
returns-in-Closing-clause-linked g c = λ calls s h r.
    let o = c.open-in-Closing.ensures.set in
    let t : c.args.self.now ≡ Closing = sym c.self.view_is ∙ ap transfer_view c.in-Closing.is in (
      calls,
      s,
      closed_again c.args.self.now o.0 o.1 _ _ calls o.2 o.3 t h,
      opens o.1 (g.C.Controller.bus c.open-in-Closing.new.controller) o.3,
      ([], refl, tt, tt),
    )

pub returns-in-Refused-clause-linked : goal.returns-in-Refused-clause-linked
returns-in-Refused-clause-linked g c = λ calls s h r.
    let t : c.args.self.now ≡ Refused = sym c.self.view_is ∙ ap transfer_view c.in-Refused.is in
    let T : TransferState → Type 0 = λ x. Link x (g.C.Controller.bus c.args.controller.now) calls in
    let e = c.refuse-in-Refused.ensures in
    (calls, s, rw e.over (e.linked calls (subst T t h)), rw e.over e.reported, rw e.over ([], refl, tt, tt))
