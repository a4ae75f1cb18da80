use Rattle.std.proofs.Common.{sym, subst}
use Rattle.usb_device.specs.contracts.report_buffers.ReportBuffers.{the_view}
use Rattle.usb_device.specs.representation.Link1.{ReportState, Link1}
use Rattle.usb_device.proofs.Reporting.{set_up}
use Rattle.usb_device.proofs.report_buffers.ReportBuffers.setup.Goals as goal

pub returns-clause-linked : goal.returns-clause-linked
returns-clause-linked c = λ b calls h.
    let P : ReportState → Type 0 = λ x. Link1 x b calls in
    set_up (the_view c.self.inside) (the_view c.self.inside).left c.sets_protocol-self-inside.result c.args.packet b calls c.sets_protocol-self-inside.ensures (subst P (sym c.self.view_is) h)
