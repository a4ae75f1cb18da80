use Rattle.std.proofs.Common.{◌∷◌}
use Rattle.keyboard.specs.Calls.{Worked}
use Rattle.usb_keyboard.proofs.device.UsbKeyboardOfWorks.work.Goals as goal

pub returns-clause-refines : goal.returns-clause-refines
returns-clause-refines g c = λ calls s. (s.0, Worked c.step-work.result _ ∷ s.1, c.step-work.ensures.reported s.0 s.1 s.2, s.3)
