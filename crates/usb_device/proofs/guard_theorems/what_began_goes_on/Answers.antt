use Rattle.usb_device.proofs.Pacing.{not_refused, goes_by, status}
use Rattle.usb_device.proofs.guard_theorems.what_began_goes_on.Goals as goal

pub returns-clause-reading : goal.returns-clause-reading
returns-clause-reading c = λ pace past packet e. (not_refused past e, goes_by pace past packet e)

pub returns-clause-status : goal.returns-clause-status
returns-clause-status c = status
