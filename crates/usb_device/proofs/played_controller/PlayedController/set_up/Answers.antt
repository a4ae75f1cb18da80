use Rattle.usb_device.specs.representation.Played0.{played_bus_0}
use Rattle.usb_device.proofs.Playing0.{set_up}
use Rattle.usb_device.proofs.played_controller.PlayedController.set_up.Goals as goal

pub returns-then-is_noted-clause-moved : goal.returns-then-is_noted-clause-moved
returns-then-is_noted-clause-moved c = set_up (played_bus_0 c.args.self.now) c.args.setup _ (c.is_noted.ensures.noted c.if-is_noted.true)
