use Rattle.std.proofs.Common.{List, ◌-◌, sym, ap, subst, ◌∙◌}
use Rattle.usb_device.specs.Calls.{EpCall}
use Rattle.usb_device.specs.Through.{calls_of}
use Rattle.usb_device.proofs.Layering.{scan_refines, scan_session}
use Rattle.usb_device.proofs.device.Device.scan.Goals as goal

pub returns-clause-refines : goal.returns-clause-refines
returns-clause-refines g c = λ lent past h.
    let S : List EpCall → Type 0 = λ x. g.E.Endpoints.refines x c.args.self.now.behind in (
      scan_refines lent past c.args.self.now.layer h.0,
      subst S (sym (scan_session lent past)) h.1,
      c.scan.ensures.linked _ (calls_of past) h.2,
      h.3,
      c.scan.ensures.less ∙ ap (λ x. x - 1) h.4,
    )
