use Rattle.std.proofs.Common.{[], ◌∷◌, refl, ◌∙◌, sym, ap, subst, Some}
use Rattle.usb_device.specs.Bus.{looked}
use Rattle.usb_device.specs.Calls.{Out}
use Rattle.usb_device.specs.Transfers.{TransferState}
use Rattle.usb_device.specs.representation.Link.{Link, Ready}
use Rattle.usb_device.proofs.Moving.{closes}
use Rattle.usb_device.proofs.Resting.{ended_ready}
use Rattle.usb_device.proofs.control_buffers.ControlBuffers.close.Goals as goal

pub returns-clause-linked : goal.returns-clause-linked
returns-clause-linked g c = λ b calls s h i r n o.
    let p = c.as_slice.result.now in
    let answer = c.out-answer.result in
    let later = Out p answer ∷ calls in
    let L : TransferState → Type 0 = λ x. Link x (looked b) later in
    let R : TransferState → Type 0 = λ x. Ready x (looked b) in
    let is = sym c.ended-self-inside.ensures in (
      later,
      c.out-answer.ensures.refines calls s,
      subst L is (closes c.args.self.now b p answer calls i r n (o ∙ ap Some (sym c.as_slice.ensures.value)) h),
      subst R is (ended_ready (looked b) answer),
      (Out p answer ∷ [], refl, tt),
    )
