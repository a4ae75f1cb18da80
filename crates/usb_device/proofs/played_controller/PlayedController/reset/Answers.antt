use Rattle.usb_device.specs.representation.Played0.{played_bus_0}
use Rattle.usb_device.proofs.Playing0.{was_reset}
use Rattle.usb_device.proofs.played_controller.PlayedController.reset.Goals as goal

pub returns-then-is_noted-clause-moved : goal.returns-then-is_noted-clause-moved
returns-then-is_noted-clause-moved c = rw c.only-self.ensures (was_reset (played_bus_0 c.args.self.now) _ (c.is_noted.ensures.noted c.if-is_noted.true))
