use Rattle.usb_device.specs.Events.{OutCame}
use Rattle.usb_device.specs.Steps.{session}
use Rattle.usb_device.proofs.Next.{next, called}
use Rattle.usb_device.proofs.device_layer.DeviceLayer.out_packet.Goals as goal

pub returns-clause-refines : goal.returns-clause-refines
returns-clause-refines g c = λ lent past h. next lent past c.args.self.now _ (OutCame c.args.packet.now c.answer_out.result) h (c.answer_out.ensures.answer) (c.answer_out.ensures.left)

pub returns-clause-session : goal.returns-clause-session
returns-clause-session g c = λ lent past h s. called g.E.Endpoints.refines _ lent past c.args.self.now (OutCame c.args.packet.now c.answer_out.result) h (c.answer_out.ensures.calls (session lent past) s)
