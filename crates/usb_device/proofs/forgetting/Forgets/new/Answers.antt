use Rattle.std.proofs.Common.{refl}
use Rattle.usb_device.specs.representation.Forgetting.{forgets_of}
use Rattle.usb_device.proofs.forgetting.Forgets.new.Goals as goal

pub returns : goal.returns
unfolding forgets_of
returns c = refl
