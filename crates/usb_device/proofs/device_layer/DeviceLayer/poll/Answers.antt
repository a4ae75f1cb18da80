use Rattle.usb_device.specs.Events.{PollAsked}
use Rattle.usb_device.specs.Steps.{session}
use Rattle.usb_device.proofs.Next.{next, called}
use Rattle.usb_device.proofs.device_layer.DeviceLayer.poll.Goals as goal

pub returns-clause-refines : goal.returns-clause-refines
returns-clause-refines g c = λ lent past h. next lent past c.args.self.now _ (PollAsked c.answer_poll.result) h (c.answer_poll.ensures.answer) (c.answer_poll.ensures.left)

pub returns-clause-session : goal.returns-clause-session
returns-clause-session g c = λ lent past h s. called g.E.Endpoints.refines _ lent past c.args.self.now (PollAsked c.answer_poll.result) h (c.answer_poll.ensures.calls (session lent past) s)
