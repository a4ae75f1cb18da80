use Rattle.usb_device.proofs.Pacing.{stalled, shown, taken}
use Rattle.usb_device.proofs.guard_theorems.none_while_locked.Goals as goal

pub returns-clause-stalled : goal.returns-clause-stalled
returns-clause-stalled c = stalled

pub returns-clause-shown : goal.returns-clause-shown
returns-clause-shown c = shown

pub returns-clause-taken : goal.returns-clause-taken
returns-clause-taken c = taken
