use Rattle.std.proofs.Common.{◌≡◌, true, sym, subst, ap, ◌∙◌, inl, inr}
use Rattle.usb_device.specs.declared.report_buffers.Course.TheVariants.{Rests, Goes}
use Rattle.usb_device.specs.Bus1.{Bus1, sent_of, is_old}
use Rattle.usb_device.specs.contracts.report_buffers.ReportBuffers.{the_view}
use Rattle.usb_device.specs.representation.Link1.{ReportState, Link1}
use Rattle.usb_device.proofs.Reporting.{goes1}
use Rattle.usb_device.proofs.Emptying.{given_up_went, given_up_waited}
use Rattle.usb_device.proofs.Layering.{given_up_keeps}
use Rattle.usb_device.proofs.report_buffers.ReportBuffers.give_up.Goals as goal

pub returns-in-Goes-clause-linked : goal.returns-in-Goes-clause-linked
returns-in-Goes-clause-linked g c = λ calls later k o n a h.
    let i = c.give_up.ensures in
    let s = the_view c.self.inside in
    let old = g.B.Buffers.bus c.args.buffers.now in
    let P : ReportState → Type 0 = λ x. Link1 x old calls in
    let O : ReportState → Type 0 = λ x. (x.course ≡ Goes → is_old (sent_of calls) ≡ x.old) → is_old (sent_of later) ≡ true in
    let Q : Bus1 → Type 0 = λ x. Link1 (record s { course = Rests; unsure = true; lost = true }) x later in
    subst Q (sym i.3) (given_up_went s i.1 calls later c.in-Goes.is (subst O (sym c.self.view_is) o) n a (goes1 i.0 s old i.1 calls i.2 (subst P (sym c.self.view_is) h)))

pub returns-in-Rests-clause-linked : goal.returns-in-Rests-clause-linked
returns-in-Rests-clause-linked g c = λ calls later k o n a h.
    let i = c.give_up.ensures in
    let s = the_view c.self.inside in
    let old = g.B.Buffers.bus c.args.buffers.now in
    let P : ReportState → Type 0 = λ x. Link1 x old calls in
    let O : ReportState → Type 0 = λ x. (x.course ≡ Goes → is_old (sent_of calls) ≡ x.old) → is_old (sent_of later) ≡ true in
    let Q : Bus1 → Type 0 = λ x. Link1 (record s { course = Rests }) x later in
    elim c.in-Rests.is [
      | inl e ↦ absurd (k (sym (ap (λ (x : ReportState). x.course) c.self.view_is) ∙ e))
      | inr e ↦ subst Q (sym i.3) (given_up_waited s i.1 calls later e (subst O (sym c.self.view_is) o) n a (goes1 i.0 s old i.1 calls i.2 (subst P (sym c.self.view_is) h)))
    ]

pub returns-in-Goes-clause-reported : goal.returns-in-Goes-clause-reported
returns-in-Goes-clause-reported g c =
    let i = c.give_up.ensures in
    given_up_keeps i.0 (g.B.Buffers.bus c.args.buffers.now) i.1 (g.B.Buffers.bus c.give_up.new.self) i.2 i.3

pub returns-in-Rests-clause-reported : goal.returns-in-Rests-clause-reported
returns-in-Rests-clause-reported g c =
    let i = c.give_up.ensures in
    given_up_keeps i.0 (g.B.Buffers.bus c.args.buffers.now) i.1 (g.B.Buffers.bus c.give_up.new.self) i.2 i.3
