use Rattle.usb_device.proofs.Locking.{on_lock}
use Rattle.usb_device.proofs.guarded.Guarded.set_locked.Goals as goal

pub returns : goal.returns
returns g c = λ pace past s. on_lock g.E.Endpoints.refines pace past c.args.on c.args.self.now.guard _ c.args.self.now.behind c.set_locked.ensures s
