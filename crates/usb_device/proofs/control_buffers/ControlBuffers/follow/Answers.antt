use Rattle.std.proofs.lemmas.Grind.{common_steps}
use Rattle.std.proofs.Common.{◌≡◌, true, arith, refl, [], ap, sym, subst, ◌∙◌}
use Rattle.usb_device.specs.Transfers.{TransferState}
use Rattle.usb_device.specs.Bus.{looked}
use Rattle.usb_device.specs.representation.Link.{Ready}
use Rattle.std.specs.Option.{option_map}
use Rattle.usb_device.proofs.Moving.{looked_undue}
use Rattle.usb_device.proofs.Resting.{taken_ready}
use Rattle.usb_device.proofs.Standing.{has_ended_by}
use Rattle.usb_device.proofs.control_buffers.ControlBuffers.follow.Goals as goal

pub returns-in-Closed-clause-linked : goal.returns-in-Closed-clause-linked
returns-in-Closed-clause-linked g c = λ b calls s h r n o k rests.
    let e : has_ended_by c.args.self.now ≡ true = grind (arith, common_steps, c.in-Closed.is, c.self.view_is) in
    (calls, s, looked_undue c.args.self.now c.in-Some.packet.items b calls e r n (o ∙ ap (λ x. option_map (λ p. p.items) x) c.in-Some.is) h, tt, ([], refl, tt))

pub returns-then-taken-clause-linked : goal.returns-then-taken-clause-linked
returns-then-taken-clause-linked g c = λ b calls s h r n o k rests.
    let none = o ∙ ap (λ x. option_map (λ p. p.items) x) c.in-None.is in
    let R : TransferState → Type 0 = λ x. Ready x (looked b) in
    (calls, s, c.move_on.ensures.linked b calls h r n none (k ∙ c.if-taken.true), subst R (sym c.move_on.ensures.moved) (taken_ready c.args.self.now b none rests), ([], refl, tt))
