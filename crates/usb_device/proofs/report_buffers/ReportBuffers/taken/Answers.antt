use Rattle.std.proofs.Common.{sym, subst, ◌∙◌}
use Rattle.usb_device.specs.contracts.report_buffers.ReportBuffers.{the_view}
use Rattle.usb_device.specs.representation.Link1.{ReportState, Link1}
use Rattle.usb_device.proofs.Reporting.{taken_goes, taken_over}
use Rattle.usb_device.proofs.report_buffers.ReportBuffers.taken.Goals as goal

pub returns-else-is_over-clause-linked : goal.returns-else-is_over-clause-linked
returns-else-is_over-clause-linked c = λ b calls t h.
    let P : ReportState → Type 0 = λ x. Link1 x b calls in
    taken_goes (the_view c.self.inside) c.saturating_sub.result c.args.count b calls c.saturating_sub.ensures c.in-Goes.is t
    (sym c.is_over.ensures ∙ c.if-is_over.false) (subst P (sym c.self.view_is) h)

pub returns-then-is_over-clause-linked : goal.returns-then-is_over-clause-linked
returns-then-is_over-clause-linked c = λ b calls t h.
    let P : ReportState → Type 0 = λ x. Link1 x b calls in
    taken_over (the_view c.self.inside) c.saturating_sub.result c.args.count b calls c.saturating_sub.ensures c.in-Goes.is t
    (sym c.is_over.ensures ∙ c.if-is_over.true) (subst P (sym c.self.view_is) h)
