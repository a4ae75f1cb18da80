use Rattle.std.proofs.Common.{ap, sym, ◌∙◌}
use Rattle.usb_device.specs.Bus.{out_mode_of}
use Rattle.usb_device.specs.representation.Played0.{played_bus_0}
use Rattle.usb_device.proofs.Playing0.{brought}
use Rattle.usb_device.proofs.played_controller.PlayedController.bring.Goals as goal

pub returns-then-is_noted-clause-moved : goal.returns-then-is_noted-clause-moved
returns-then-is_noted-clause-moved c = λ short.
    let same = c.copied.ensures short in
    brought (played_bus_0 c.args.self.now) c.copied.result.items _ _ (ap out_mode_of c.in-Take.is) (c.copied-then-is_noted.ensures short ∙ sym same) (c.is_noted.ensures.noted c.if-is_noted.true)
