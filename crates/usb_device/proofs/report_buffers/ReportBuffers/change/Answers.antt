use Rattle.std.proofs.Common.{◌≡◌, sym, subst, ap, ◌∙◌}
use Rattle.usb_device.specs.declared.report_buffers.Course.TheVariants.{Rests, Begins, Goes}
use Rattle.usb_device.specs.Bus1.{is_old, newest}
use Rattle.usb_device.specs.representation.Link1.{ReportState, Link1}
use Rattle.usb_device.proofs.Emptying.{changed_rests, goes_on}
use Rattle.usb_device.proofs.report_buffers.ReportBuffers.change.Goals as goal

pub returns-in-Rests-clause-linked : goal.returns-in-Rests-clause-linked
returns-in-Rests-clause-linked g c = λ calls later e a h.
    changed_rests c.args.self.now (g.B.Buffers.bus c.args.buffers.now) calls later (sym (ap (λ (x : ReportState). x.course) c.self.view_is) ∙ c.in-Rests.is) e a h

pub returns-in-Begins-clause-linked : goal.returns-in-Begins-clause-linked
returns-in-Begins-clause-linked g c = λ calls later e a h.
    let b : c.args.self.now.course ≡ Begins = sym (ap (λ (x : ReportState). x.course) c.self.view_is) ∙ c.in-Begins.is in
    c.give_up.ensures.linked calls later (λ r. (let x : Begins ≡ Rests = sym b ∙ r in cc)) (λ _. ap (λ x. is_old x) e) (ap (λ x. newest x) e) a h

pub returns-then-is_begun-clause-linked : goal.returns-then-is_begun-clause-linked
returns-then-is_begun-clause-linked g c = λ calls later e a h.
    let b = g.B.Buffers.bus c.args.buffers.now in
    let P : ReportState → Type 0 = λ x. Link1 x b later in
    let goes : c.args.self.now.course ≡ Goes = sym (ap (λ (x : ReportState). x.course) c.self.view_is) ∙ c.in-Goes.is in
    subst P (sym c.go_on.ensures) (goes_on c.args.self.now b calls later goes (sym c.is_begun.ensures ∙ c.if-is_begun.true) e a h)

pub returns-else-is_begun-clause-linked : goal.returns-else-is_begun-clause-linked
returns-else-is_begun-clause-linked g c = λ calls later e a h.
    let goes : c.args.self.now.course ≡ Goes = sym (ap (λ (x : ReportState). x.course) c.self.view_is) ∙ c.in-Goes.is in
    c.give_up-else-is_begun.ensures.linked calls later (λ r. (let x : Goes ≡ Rests = sym goes ∙ r in cc)) (λ _. ap (λ x. is_old x) e) (ap (λ x. newest x) e) a h
