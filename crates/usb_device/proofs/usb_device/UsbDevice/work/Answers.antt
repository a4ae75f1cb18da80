use Rattle.usb_device.specs.Steps.{session}
use Rattle.usb_device.proofs.usb_device.UsbDevice.work.Goals as goal

pub returns-clause-goes_on : goal.returns-clause-goes_on
returns-clause-goes_on g c = λ lent past h. (h.0, c.work.ensures.refines (session lent past) h.1, h.2, h.3, h.4)
