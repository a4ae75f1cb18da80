use Rattle.std.proofs.Common.{List, sym, subst}
use Rattle.usb_device.specs.Calls.{EpCall}
use Rattle.usb_device.proofs.Layering.{resume_session}
use Rattle.usb_device.proofs.device.Device.resume.Goals as goal

pub returns-clause-refines : goal.returns-clause-refines
returns-clause-refines g c = λ lent past h.
    let S : List EpCall → Type 0 = λ x. g.E.Endpoints.refines x c.args.self.now.behind in
    (c.resume.ensures lent past h.0, subst S (sym (resume_session lent past)) h.1, h.2, h.3, h.4)
