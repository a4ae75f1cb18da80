use Rattle.std.proofs.Common.{[], refl}
use Rattle.usb_device.specs.Guarding.{passed}
use Rattle.usb_device.proofs.Locking.{on_work}
use Rattle.usb_device.proofs.guarded.GuardedWorks.work.Goals as goal

pub returns : goal.returns
returns g c = record {
  made = c.work.ensures.made;
  reported = λ pace past s. on_work g.E.Endpoints.refines pace past c.args.self.now.guard c.args.self.now.behind _ (c.work.ensures.refines (passed pace past)) s;
  went = λ pace past s. ([], refl, on_work g.E.Endpoints.refines pace past c.args.self.now.guard c.args.self.now.behind _ (c.work.ensures.refines (passed pace past)) s);
}
