use Rattle.std.proofs.Common.{◌≡◌, false, sym, subst, inl, inr}
use Rattle.usb_device.specs.declared.report_buffers.Course.TheVariants.{Goes}
use Rattle.usb_device.specs.contracts.report_buffers.ReportBuffers.{the_view}
use Rattle.usb_device.specs.representation.Link1.{ReportState, Link1}
use Rattle.usb_device.proofs.Emptying.{anew_went, anew_rested, anew_begins}
use Rattle.usb_device.proofs.report_buffers.ReportBuffers.begin_anew.Goals as goal

pub returns-in-Goes-clause-linked : goal.returns-in-Goes-clause-linked
returns-in-Goes-clause-linked c = λ state b calls k h.
    let P : ReportState → Type 0 = λ x. Link1 x b calls in
    let K : ReportState → Type 0 = λ x. x.course ≡ Goes → x.old ≡ false in
    anew_went (the_view c.self.inside) c.pause-self-inside.result state b calls (subst K (sym c.self.view_is) k) c.in-Goes.is (subst P (sym c.self.view_is) h)

pub returns-in-Rests-clause-linked : goal.returns-in-Rests-clause-linked
returns-in-Rests-clause-linked c = λ state b calls k h.
    let P : ReportState → Type 0 = λ x. Link1 x b calls in
    let K : ReportState → Type 0 = λ x. x.course ≡ Goes → x.old ≡ false in
    let sure = subst K (sym c.self.view_is) k in
    let linked = subst P (sym c.self.view_is) h in
    elim c.in-Rests.is [
      | inl e ↦ anew_rested (the_view c.self.inside) c.pause-self-inside.result state b calls sure e linked
      | inr e ↦ anew_begins (the_view c.self.inside) c.pause-self-inside.result state b calls sure e linked
    ]
