use Rattle.usb_device.specs.Events.{SetupCame}
use Rattle.usb_device.specs.Steps.{session}
use Rattle.usb_device.proofs.Next.{next, called}
use Rattle.usb_device.proofs.device_layer.DeviceLayer.setup.Goals as goal

pub returns-clause-refines : goal.returns-clause-refines
returns-clause-refines g c = λ lent past h. next lent past c.args.self.now _ (SetupCame c.args.packet) h (tt) (c.begin.ensures)

pub returns-clause-session : goal.returns-clause-session
returns-clause-session g c = λ lent past h s. called g.E.Endpoints.refines _ lent past c.args.self.now (SetupCame c.args.packet) h (c.setup.ensures.refines (session lent past) s)
