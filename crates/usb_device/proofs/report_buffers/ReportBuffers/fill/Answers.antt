use Rattle.std.proofs.Common.{◌++◌, sym, ap, ◌∙◌}
use Rattle.usb_device.specs.representation.Link1.{ReportState}
use Rattle.usb_device.proofs.Layering.{through_then}
use Rattle.usb_device.proofs.report_buffers.ReportBuffers.fill.Goals as goal

pub returns-in-Begins-clause-fills : goal.returns-in-Begins-clause-fills
returns-in-Begins-clause-fills g c = λ calls h.
    let b = g.B.Buffers.bus in
    let e = sym (ap (λ (x : ReportState). x.course) c.self.view_is) ∙ c.in-Begins.is in
    let x = c.first.ensures.fills calls e h in
    let y = c.more.ensures.fills calls c.first.ensures.goes (c.first.ensures.linked calls e h) in
    (x.0 ++ y.0, through_then x.0 y.0 (b c.args.buffers.now) (b c.first.new.buffers) (b c.more.new.buffers) x.1 y.1)

pub returns-in-Goes-clause-fills : goal.returns-in-Goes-clause-fills
returns-in-Goes-clause-fills g c = λ calls h.
    let b = g.B.Buffers.bus in
    let e = sym (ap (λ (x : ReportState). x.course) c.self.view_is) ∙ c.in-Goes.is in
    let x = c.more-in-Goes.ensures.fills calls e h in
    let y = c.more-in-Goes-2.ensures.fills calls (c.more-in-Goes.ensures.goes ∙ e) (c.more-in-Goes.ensures.linked calls e h) in
    (x.0 ++ y.0, through_then x.0 y.0 (b c.args.buffers.now) (b c.more-in-Goes.new.buffers) (b c.more-in-Goes-2.new.buffers) x.1 y.1)
