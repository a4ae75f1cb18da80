use Rattle.std.proofs.Common.{refl}
use Rattle.usb_device.specs.Transfers.{Due}
use Rattle.usb_device.proofs.Moving.{reopened}
use Rattle.usb_device.proofs.Addressing.{stays_then}
use Rattle.usb_device.proofs.Looking.{grows_then}
use Rattle.usb_device.proofs.Resting.{opens}
use Rattle.usb_device.proofs.control_buffers.ControlBuffers.ask.Goals as goal

pub returns-clause-linked : goal.returns-clause-linked
returns-clause-linked g c = λ calls s h.
    let o = c.open.ensures.set in
    c.confirm.ensures.linked calls s (reopened Due o.0 o.1 _ _ calls o.2 o.3 refl h) (opens o.1 (g.C.Controller.bus c.open.new.controller) o.3)

pub returns-clause-stays : goal.returns-clause-stays
returns-clause-stays g c =
    let b = g.C.Controller.bus in
    let a = g.C.Controller.address_of in
    let old = c.args.controller.now in
    let mid = c.open.new.controller in
    let new = c.confirm.new.controller in
    stays_then (b old) (b mid) (b new) (a old) (a mid) (a new) c.open.ensures.stays c.confirm.ensures.stays

pub returns-clause-grows : goal.returns-clause-grows
returns-clause-grows g c =
    let b = g.C.Controller.bus in grows_then (b c.args.controller.now).seen (b c.open.new.controller).seen (b c.confirm.new.controller).seen c.open.ensures.grows c.confirm.ensures.grows
