use Rattle.usb_device.proofs.Stating.{standing}
use Rattle.usb_device.proofs.theorems.endpoint_is_looked_back.Goals as goal

pub returns : goal.returns
returns c = λ lent past all. (standing lent past all).endpoint
