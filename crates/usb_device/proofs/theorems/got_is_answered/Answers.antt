use Rattle.std.proofs.Common.{◌∷◌}
use Rattle.usb_device.specs.Given.{got_of}
use Rattle.usb_device.specs.Through.{calls_of}
use Rattle.usb_device.proofs.Bringing.{was_answered, stalled_brings}
use Rattle.usb_device.proofs.Layering.{were_given}
use Rattle.usb_device.proofs.theorems.got_is_answered.Goals as goal

pub returns-clause-given : goal.returns-clause-given
returns-clause-given c = λ t b calls after before setup packet h seen s. h.given after before setup packet seen s

pub returns-clause-answered : goal.returns-clause-answered
returns-clause-answered c = λ t b calls lent past after before setup packet h all e seen s.
    was_answered lent past setup (packet ∷ got_of before) all (were_given setup (packet ∷ got_of before) calls (calls_of past) e (h.given after before setup packet seen s))

pub returns-clause-stalled : goal.returns-clause-stalled
returns-clause-stalled c = stalled_brings
