use Rattle.std.proofs.Common.{true, [], ◌∷◌, ◌++◌, refl}
use Rattle.usb_device.specs.Bus1.{blank, resets1}
use Rattle.usb_device.proofs.Playing.{moved_then}
use Rattle.usb_device.proofs.played_buffers.PlayedBuffersBuffers.host_began.Goals as goal

pub returns-else-is_ok : goal.returns-else-is_ok
returns-else-is_ok c = (c.play.ensures.0 ++ blank true ∷ [], blank true, moved_then c.play.ensures.0 _ _ _ c.play.ensures.1 (resets1 refl), c.set_back.ensures)
