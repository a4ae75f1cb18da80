use Rattle.std.proofs.Common.{sym, subst, ap, ◌∙◌, ◌+◌, arith, ◌<◌}
use Rattle.usb_device.specs.representation.Link1.{ReportState, Link1}
use Rattle.usb_device.specs.Bus1.{room_of}
use Rattle.usb_device.proofs.Handing.{more_link, more_fits}
use Rattle.usb_device.proofs.Layering.{filled_through}
use Rattle.usb_device.proofs.report_buffers.ReportBuffers.more.Goals as goal

pub returns-then-is_more-clause-linked : goal.returns-then-is_more-clause-linked
returns-then-is_more-clause-linked g c = λ calls e h.
    let room = c.room.ensures in
    let same = ap (λ (x : ReportState). x.buffered) c.self.view_is in
    let test = c.if-self-room.true in
    let fits : c.args.self.now.buffered < room_of g.B.Buffers.two = omega (arith, room, same, test) in
    let n = c.next_packet-packet.new.self in
    let i = c.input_1.ensures in
    let new = g.B.Buffers.bus c.input_1.new.self in
    let P : ReportState → Type 0 = λ x. Link1 (record x { buffered = x.buffered + 1 }) new calls in
    subst P (sym c.self-then-is_more.view_is)
    (more_link c.args.self.now n i.0 _ i.1 new calls c.next_packet-packet.result.items g.B.Buffers.two e
    c.next_packet-packet.ensures.same (c.next_packet-packet.ensures.packet (sym c.is_more.ensures ∙ c.if-is_more.true)) fits i.2 i.3 h)

pub returns-then-is_more-clause-fills : goal.returns-then-is_more-clause-fills
returns-then-is_more-clause-fills g c = λ calls e h.
    let room = c.room.ensures in
    let same = ap (λ (x : ReportState). x.buffered) c.self.view_is in
    let test = c.if-self-room.true in
    let fits : c.args.self.now.buffered < room_of g.B.Buffers.two = omega (arith, room, same, test) in
    let i = c.input_1.ensures in
    let b = g.B.Buffers.bus c.args.buffers.now in
    filled_through i.0 b i.1 (g.B.Buffers.bus c.input_1.new.self) c.next_packet-packet.result.items i.2
    (i.3 (more_fits c.args.self.now i.0 b i.1 calls g.B.Buffers.two e fits i.2 h))
