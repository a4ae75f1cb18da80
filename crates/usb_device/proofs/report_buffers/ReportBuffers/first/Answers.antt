use Rattle.std.proofs.Common.{sym, subst}
use Rattle.usb_device.specs.declared.report_buffers.Course.TheVariants.{Goes}
use Rattle.usb_device.specs.representation.Link1.{ReportState, Link1}
use Rattle.usb_device.proofs.Handing.{first_link, first_fits}
use Rattle.usb_device.proofs.Layering.{filled_through}
use Rattle.usb_device.proofs.report_buffers.ReportBuffers.first.Goals as goal

pub returns-clause-linked : goal.returns-clause-linked
returns-clause-linked g c = λ calls e h.
    let n = c.next_packet-packet.new.self in
    let i = c.input_1.ensures in
    let new = g.B.Buffers.bus c.input_1.new.self in
    let P : ReportState → Type 0 = λ x. Link1 (record x { course = Goes; buffered = 1 }) new calls in
    subst P (sym c.self.view_is)
    (first_link c.args.self.now c.restart.new.self n i.0 _ i.1 new calls c.next_packet-packet.result.items g.B.Buffers.two e c.restart.ensures
    c.next_packet-packet.ensures.same c.next_packet-packet.ensures.packet i.2 i.3 h)

pub returns-clause-fills : goal.returns-clause-fills
returns-clause-fills g c = λ calls e h.
    let i = c.input_1.ensures in
    let b = g.B.Buffers.bus c.args.buffers.now in
    filled_through i.0 b i.1 (g.B.Buffers.bus c.input_1.new.self) c.next_packet-packet.result.items i.2
    (i.3 (first_fits c.args.self.now i.0 b i.1 calls g.B.Buffers.two e i.2 h))
