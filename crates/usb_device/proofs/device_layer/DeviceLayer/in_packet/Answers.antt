use Rattle.usb_device.specs.Events.{InAsked}
use Rattle.usb_device.specs.Steps.{session}
use Rattle.usb_device.proofs.Next.{next, called}
use Rattle.usb_device.proofs.device_layer.DeviceLayer.in_packet.Goals as goal

pub returns-clause-refines : goal.returns-clause-refines
returns-clause-refines g c = λ lent past h. next lent past c.args.self.now _ (InAsked c.answer_in.result.0) h (c.answer_in.ensures.answer) (c.answer_in.ensures.left)

pub returns-clause-session : goal.returns-clause-session
returns-clause-session g c = λ lent past h s. called g.E.Endpoints.refines _ lent past c.args.self.now (InAsked c.answer_in.result.0) h (c.answer_in.ensures.calls (session lent past) s)
