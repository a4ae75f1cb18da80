use Rattle.usb_device.proofs.Moving.{polled_link}
use Rattle.usb_device.proofs.theorems.a_poll_is_nothing_to_endpoint_0.Goals as goal

pub returns : goal.returns
returns c = polled_link
