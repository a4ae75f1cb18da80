use Rattle.std.proofs.Common.{[], sym, subst}
use Rattle.usb_device.specs.Bus1.{Bus1, none}
use Rattle.usb_device.specs.Steps.{session}
use Rattle.usb_device.specs.representation.Link1.{Link1, InStep}
use Rattle.usb_device.proofs.device.Device.new.Goals as goal

pub returns-clause-refines : goal.returns-clause-refines
unfolding session
returns-clause-refines g c = λ lent s b e.
    let P : Bus1 → Type 0 = λ x. Link1 c.new.result x [] × InStep [] x in
    let q = subst P (sym e) (c.new.ensures.linked, λ _. none) in
    (s, b, q.0, q.1, c.new.ensures.waits)
