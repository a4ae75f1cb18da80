use Rattle.std.proofs.Common.{List, sym, subst}
use Rattle.usb_device.specs.Calls.{EpCall}
use Rattle.usb_device.specs.Confirmed.{ConfirmedBefore}
use Rattle.usb_device.specs.Guarding.{passed}
use Rattle.usb_device.specs.Steps.{session}
use Rattle.usb_device.specs.Through.{calls_of}
use Rattle.usb_device.proofs.Behind.{behind_confirmed}
use Rattle.usb_device.proofs.Layering.{confirmed_same}
use Rattle.usb_device.proofs.Linked.{seen_confirmed}
use Rattle.usb_device.proofs.Pacing as guard
use Rattle.usb_keyboard.proofs.Since.{stored, until_sent}
use Rattle.usb_keyboard.proofs.theorems.seen_is_stored.Goals as goal

pub returns-clause-direct : goal.returns-clause-direct
returns-clause-direct c = λ defaults t b calls lent past after before keyboard image setup data_ command h all e refines seen s w d brings.
    let confirmed = behind_confirmed lent past after setup data_ all (confirmed_same after setup data_ calls (calls_of past) e (seen_confirmed t b calls after before setup data_ h seen s w d)) in
    stored defaults (session lent past) keyboard image after setup data_ command refines confirmed brings

pub returns-clause-guarded : goal.returns-clause-guarded
returns-clause-guarded c = λ defaults t b calls lent past after before pace met keyboard image setup data_ command h all e same guarded refines seen s w d brings.
    let confirmed = behind_confirmed lent past after setup data_ all (confirmed_same after setup data_ calls (calls_of past) e (seen_confirmed t b calls after before setup data_ h seen s w d)) in
    let P : List EpCall → Type 0 = λ x. ConfirmedBefore after setup data_ x in
    stored defaults (passed pace met) keyboard image after setup data_ command refines (guard.confirmed pace met after setup data_ guarded (subst P (sym same) confirmed)) brings

pub returns-clause-until_sent : goal.returns-clause-until_sent
returns-clause-until_sent c = until_sent
