use Rattle.usb_device.proofs.usb_device.UsbDevice.wakes.Goals as goal

pub returns-clause-goes_on : goal.returns-clause-goes_on
returns-clause-goes_on g c = c.wakes.ensures.refines

pub returns-clause-answer : goal.returns-clause-answer
returns-clause-answer g c = λ lent past h. c.wakes.ensures.answer lent past h.0
