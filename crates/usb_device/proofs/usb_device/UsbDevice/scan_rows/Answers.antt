use Rattle.std.proofs.Common.{◌∷◌}
use Rattle.usb_device.specs.Events.{ScanCame}
use Rattle.usb_device.specs.Steps.{session}
use Rattle.usb_device.proofs.usb_device.UsbDevice.scan_rows.Goals as goal

pub returns-clause-goes_on : goal.returns-clause-goes_on
returns-clause-goes_on g c = λ lent past h.
    let n = c.scan.ensures.goes_on lent past h in (n.0, c.scan-2.ensures.refines (session lent (ScanCame ∷ past)) n.1, n.2, n.3, n.4)
