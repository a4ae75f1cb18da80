use Rattle.usb_device.proofs.Addressing.{input_stays}
use Rattle.usb_device.proofs.Looking.{input_grows}
use Rattle.usb_device.proofs.control_buffers.hand_over.Goals as goal

pub returns-clause-stays : goal.returns-clause-stays
returns-clause-stays g c = let e = c.input_0.ensures in input_stays e.set.0 _ e.set.1 _ _ _ _ e.set.2 e.set.3 e.stays

pub returns-clause-grows : goal.returns-clause-grows
returns-clause-grows g c = let e = c.input_0.ensures.set in input_grows e.0 _ e.1 _ _ e.2 e.3
