use Rattle.std.proofs.Common.{[], ◌∷◌, refl}
use Rattle.usb_device.specs.Bus1.{resets1}
use Rattle.usb_device.proofs.Playing.{began}
use Rattle.usb_device.proofs.played_buffers.PlayedBuffers.play.Goals as goal

pub returns-in-Begins : goal.returns-in-Begins
returns-in-Begins c = began c.args.self.now.opened _ _ refl c.begin.ensures

pub returns-in-Resets : goal.returns-in-Resets
returns-in-Resets c = (_ ∷ [], (resets1 c.set_back.ensures, refl))
