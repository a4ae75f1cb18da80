use Rattle.std.proofs.Common.{subst}
use Rattle.usb_device.specs.Answered.{AllStalled}
use Rattle.usb_device.proofs.Bringing.{stalled_brings}
use Rattle.usb_keyboard.proofs.Refusing.{all_stalled}
use Rattle.usb_keyboard.proofs.theorems.refused_requests_bring_nothing.Goals as goal

pub returns-clause-stalled : goal.returns-clause-stalled
returns-clause-stalled c = all_stalled

pub returns-clause-on_the_bus : goal.returns-clause-on_the_bus
returns-clause-on_the_bus c = λ defaults t b calls lent past start keyboard h p all e n conforms same r.
    stalled_brings t b calls lent past h p all e n (subst AllStalled same (all_stalled defaults start keyboard conforms r))
