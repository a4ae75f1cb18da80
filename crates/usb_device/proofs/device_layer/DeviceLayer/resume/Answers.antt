use Rattle.usb_device.specs.Events.{ResumeCame}
use Rattle.usb_device.proofs.Next.{next}
use Rattle.usb_device.proofs.device_layer.DeviceLayer.resume.Goals as goal

pub returns : goal.returns
returns c = λ lent past h. next lent past c.args.self.now _ ResumeCame h (tt) c.answer_resume.ensures
