use Rattle.usb_device.proofs.Reporting.{in_order}
use Rattle.usb_device.proofs.theorems.reports_are_got_in_order.Goals as goal

pub returns : goal.returns
returns c = in_order
