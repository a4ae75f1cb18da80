use Rattle.usb_device.proofs.Locking.{served, reported_lock, rested}
use Rattle.usb_device.proofs.guard_theorems.a_call_of_the_whole_device.Goals as goal

pub returns-clause-serves : goal.returns-clause-serves
returns-clause-serves g c = served g.E.Endpoints.refines

pub returns-clause-locks : goal.returns-clause-locks
returns-clause-locks g c = reported_lock g.E.Endpoints.refines

pub returns-clause-rests : goal.returns-clause-rests
returns-clause-rests g c = rested g.E.Endpoints.refines
