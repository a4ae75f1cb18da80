use Rattle.usb_device.specs.Through.{calls_of}
use Rattle.usb_device.proofs.Behind.{behind_confirmed}
use Rattle.usb_device.proofs.Layering.{confirmed_same}
use Rattle.usb_device.proofs.Linked.{seen_confirmed}
use Rattle.usb_device.proofs.theorems.confirmed_on_the_bus.Goals as goal

pub returns : goal.returns
returns c = λ t b calls lent past after before setup data_ h all e seen s w d.
    behind_confirmed lent past after setup data_ all (confirmed_same after setup data_ calls (calls_of past) e (seen_confirmed t b calls after before setup data_ h seen s w d))
