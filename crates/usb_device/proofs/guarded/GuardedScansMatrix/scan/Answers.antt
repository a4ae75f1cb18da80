use Rattle.std.proofs.Common.{[], ◌∷◌, refl}
use Rattle.usb_device.specs.Guarding.{Scanned, passed}
use Rattle.usb_device.proofs.Locking.{on_scan}
use Rattle.usb_device.proofs.guarded.GuardedScansMatrix.scan.Goals as goal

pub returns : goal.returns
returns g c = record {
  made = c.scan-2.ensures.made;
  reported = λ pace past s. on_scan g.E.Endpoints.refines pace past c.args.self.now.guard _ c.args.self.now.behind _ c.scan.ensures (c.scan-2.ensures.refines (passed pace past)) s;
  went = λ pace past s. (
    Scanned ∷ [],
    refl,
    on_scan g.E.Endpoints.refines pace past c.args.self.now.guard _ c.args.self.now.behind _ c.scan.ensures (c.scan-2.ensures.refines (passed pace past)) s,
  );
}
