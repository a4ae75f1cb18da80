use Rattle.usb_device.proofs.Linked.{starts}
use Rattle.usb_device.proofs.theorems.begins.Goals as goal

pub returns-clause-linked : goal.returns-clause-linked
returns-clause-linked c = starts
