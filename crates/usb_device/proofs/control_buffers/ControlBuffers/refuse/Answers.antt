use Rattle.std.proofs.Common.{refl}
use Rattle.usb_device.specs.Bus.{Stalls, StallsOut}
use Rattle.usb_device.specs.Transfers.{Refused}
use Rattle.usb_device.proofs.Moving.{refused}
use Rattle.usb_device.proofs.Addressing.{input_stays, output_stays, stays_then}
use Rattle.usb_device.proofs.Looking.{grows_then, input_grows, output_grows}
use Rattle.usb_device.proofs.Resting.{stalls_reported}
use Rattle.usb_device.proofs.control_buffers.ControlBuffers.refuse.Goals as goal

pub returns-clause-linked : goal.returns-clause-linked
returns-clause-linked g c = λ calls h.
    let i = c.input_0.ensures.set in
    let o = c.output_0.ensures.set in
    refused Refused i.0 i.1 _ _ o.0 o.1 _ calls i.2 i.3 o.2 o.3 refl h

pub returns-clause-reported : goal.returns-clause-reported
returns-clause-reported g c = λ q.
    let i = c.input_0.ensures.set in
    let o = c.output_0.ensures.set in
    stalls_reported i.1 (g.C.Controller.bus c.input_0.new.self) o.0 o.1 (g.C.Controller.bus c.output_0.new.self) i.3 o.2 o.3 q

pub returns-clause-stays : goal.returns-clause-stays
returns-clause-stays g c =
    let b = g.C.Controller.bus in
    let a = g.C.Controller.address_of in
    let old = c.args.controller.now in
    let mid = c.input_0.new.self in
    let new = c.output_0.new.self in
    let i = c.input_0.ensures in
    let o = c.output_0.ensures in
    let first = input_stays i.set.0 (b old) i.set.1 (b mid) Stalls (a old) (a mid) i.set.2 i.set.3 i.stays in
    stays_then (b old) (b mid) (b new) (a old) (a mid) (a new) first (output_stays o.set.0 (b mid) o.set.1 (b new) StallsOut (a mid) (a new) o.set.2 o.set.3 o.stays)

pub returns-clause-grows : goal.returns-clause-grows
returns-clause-grows g c =
    let b = g.C.Controller.bus in
    let old = b c.args.controller.now in
    let mid = b c.input_0.new.self in
    let new = b c.output_0.new.self in
    let i = c.input_0.ensures.set in
    let o = c.output_0.ensures.set in
    grows_then old.seen mid.seen new.seen (input_grows i.0 old i.1 mid Stalls i.2 i.3) (output_grows o.0 mid o.1 new StallsOut o.2 o.3)
