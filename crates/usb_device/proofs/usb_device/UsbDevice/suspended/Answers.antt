use Rattle.usb_device.proofs.usb_device.UsbDevice.suspended.Goals as goal

pub returns-clause-goes_on : goal.returns-clause-goes_on
returns-clause-goes_on g c = c.suspend.ensures.refines
