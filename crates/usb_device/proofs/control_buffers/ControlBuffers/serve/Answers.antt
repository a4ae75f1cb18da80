use Rattle.std.proofs.Common.{◌≡◌, Bool, true, false, ap, sym, subst, ◌∙◌}
use Rattle.usb_device.specs.Addresses.{StaysBy}
use Rattle.usb_device.specs.Bus.{Bus, Met}
use Rattle.usb_device.specs.Served.{Grows, handed_on}
use Rattle.usb_device.proofs.Addressing.{served_stays, kept_or}
use Rattle.usb_device.proofs.Looking.{asks_more, asks_kept}
use Rattle.usb_device.proofs.Linked.{goes}
use Rattle.usb_device.proofs.Resting.{rest_goes}
use Rattle.usb_device.proofs.control_buffers.ControlBuffers.serve.Goals as goal

pub returns-clause-linked : goal.returns-clause-linked
returns-clause-linked g c = λ calls s h r.
    let w = c.waiting-met.ensures.met in
    let linked = goes w.0 c.args.self.now _ w.1 calls w.2 h in
    let taken = c.take.ensures.linked w.1 calls s linked w.3 (rest_goes w.0 c.args.self.now (g.C.Controller.bus c.args.controller.now) w.1 w.2 r) in
    let x = c.go_on.ensures.linked taken.0 taken.1 (rw w.4 taken.2) (rw w.4 taken.3) in
    let asks = asks_more _ (handed_on w.1.met calls) taken.0 x.0 taken.4 x.4 in
    let kept = asks_kept w.1.met _ calls x.0 asks in
    let L : Bus → Type 0 = λ y. Grows y.seen (g.C.Controller.bus c.go_on.new.controller).seen in
    let S : Bool → Type 0 = λ y. StaysBy y (g.C.Controller.address_of c.args.controller.now) (g.C.Controller.address_of c.waiting-met.new.self) in
    let stays = subst S (ap (λ (m : Met). m.reset) w.3) c.waiting-met.ensures.stays in (
      x.0,
      x.1,
      x.2,
      x.3,
      kept_or w.1.met.reset calls x.0 kept,
      served_stays w.1.met.reset (g.C.Controller.bus c.go_on.new.controller).met.reset calls x.0 (g.C.Controller.address_of c.args.controller.now) (g.C.Controller.address_of c.waiting-met.new.self) (g.C.Controller.address_of c.go_on.new.controller) stays (c.go_on.ensures.stays.1 (λ r. absurd (let t : false ≡ true = sym (ap (λ (x : Bus). x.met.reset) w.4) ∙ r in cc))) kept,
      (w.0, w.1, w.2, subst L w.4 c.go_on.ensures.grows, asks),
    )
