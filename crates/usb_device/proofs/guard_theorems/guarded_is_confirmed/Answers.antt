use Rattle.usb_device.proofs.Pacing.{confirmed}
use Rattle.usb_device.proofs.guard_theorems.guarded_is_confirmed.Goals as goal

pub returns : goal.returns
returns c = confirmed
