use Rattle.std.proofs.Common.{◌≡◌, true, refl, sym, ap, ◌∙◌}
use Rattle.usb_device.specs.declared.report_buffers.Course.TheVariants.{Rests, Goes}
use Rattle.usb_device.specs.representation.Link1.{ReportState}
use Rattle.usb_device.proofs.report_buffers.ReportBuffers.give_up_old.Goals as goal

pub returns-then-self-clause-linked : goal.returns-then-self-clause-linked
returns-then-self-clause-linked g c = λ calls h.
    let e : c.args.self.now.course ≡ Goes = sym (ap (λ (x : ReportState). x.course) c.self.view_is) ∙ c.in-Goes.is in
    let old : c.args.self.now.old ≡ true = sym (ap (λ (x : ReportState). x.old) c.self.view_is) ∙ c.if-self.true in
    c.give_up.ensures.linked calls calls (λ r. (let x : Goes ≡ Rests = sym e ∙ r in cc)) (λ q. q e ∙ old) refl refl h
