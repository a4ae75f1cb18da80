use Rattle.std.proofs.Common.{sym, subst}
use Rattle.usb_device.specs.contracts.report_buffers.ReportBuffers.{the_view}
use Rattle.usb_device.specs.representation.Link1.{ReportState, Link1}
use Rattle.usb_device.proofs.Reporting.{left_same}
use Rattle.usb_device.proofs.report_buffers.ReportBuffers.scan.Goals as goal

pub returns-clause-linked : goal.returns-clause-linked
returns-clause-linked c = λ b calls h.
    let P : ReportState → Type 0 = λ x. Link1 x b calls in
    left_same (the_view c.self.inside) c.saturating_sub-self-inside.result b calls (subst P (sym c.self.view_is) h)
