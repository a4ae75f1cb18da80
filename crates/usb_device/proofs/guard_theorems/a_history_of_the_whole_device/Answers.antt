use Rattle.usb_device.proofs.Locking.{begins, went_on}
use Rattle.usb_device.proofs.guard_theorems.a_history_of_the_whole_device.Goals as goal

pub returns-clause-begins : goal.returns-clause-begins
returns-clause-begins g c = begins g.E.Endpoints.refines

pub returns-clause-goes_on : goal.returns-clause-goes_on
returns-clause-goes_on g c = went_on g.E.Endpoints.refines
