use Rattle.usb_device.specs.Events.{SuspendCame}
use Rattle.usb_device.proofs.Next.{next}
use Rattle.usb_device.proofs.device_layer.DeviceLayer.suspend.Goals as goal

pub returns : goal.returns
returns c = λ lent past h. next lent past c.args.self.now _ SuspendCame h (tt) c.answer_suspend.ensures
