use Rattle.std.proofs.Common.{◌≡◌, ◌∷◌, Bool, List, sym, subst}
use Rattle.usb_device.specs.Calls.{EpCall}
use Rattle.usb_device.specs.States.{wakes_by}
use Rattle.usb_device.specs.Events.{WakeAsked}
use Rattle.usb_device.specs.representation.Relation.{Refines}
use Rattle.usb_device.specs.representation.Layered.{report_waits}
use Rattle.usb_device.proofs.Layering.{wake_session}
use Rattle.usb_device.proofs.device.Device.wakes.Goals as goal

pub returns-clause-refines : goal.returns-clause-refines
returns-clause-refines g c = λ lent past h.
    let S : List EpCall → Type 0 = λ x. g.E.Endpoints.refines x c.args.self.now.behind in
    let w = report_waits c.args.self.now.layer c.args.self.now.reports in
    let F : Bool → Type 0 = λ x. Refines lent (WakeAsked x c.wakes.result ∷ past) c.wakes.new.self in
    (subst F c.report_waits-has_report.ensures (c.wakes.ensures.refines lent past h.0), subst S (sym (wake_session lent past w c.wakes.result)) h.1, h.2, h.3, h.4)

pub returns-clause-answer : goal.returns-clause-answer
returns-clause-answer g c = λ lent past h.
    let F : Bool → Type 0 = λ x. c.wakes.result ≡ wakes_by lent past x in
    subst F c.report_waits-has_report.ensures (c.wakes.ensures.answer lent past h)
