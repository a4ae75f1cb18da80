use Rattle.std.proofs.Common.{sym, subst, ap, ◌∙◌}
use Rattle.usb_device.specs.contracts.report_buffers.ReportBuffers.{the_view}
use Rattle.usb_device.specs.representation.Link1.{ReportState, Link1}
use Rattle.usb_device.proofs.Reporting.{polled_some}
use Rattle.usb_device.proofs.report_buffers.ReportBuffers.begin.Goals as goal

pub returns-clause-linked : goal.returns-clause-linked
returns-clause-linked c = λ b calls e h.
    let P : ReportState → Type 0 = λ x. Link1 x b calls in
    polled_some (the_view c.self.inside) b calls c.args.report.items (ap (λ (x : ReportState). x.course) c.self.view_is ∙ e) (subst P (sym c.self.view_is) h)
