use Rattle.std.proofs.Common.{◌≡◌, ◌∷◌, ◌++◌, sym, ap, subst, ◌∙◌, refl}
use Rattle.usb_device.specs.declared.answer.EpAnswer.{EpAnswer}
use native.Mathlib.Numerals.{unary_clauses}
use Rattle.usb_device.specs.declared.answer.EpAnswer.TheVariants.{Nak}
use Rattle.usb_device.specs.declared.whole_transfers.Status.TheVariants.{Done, Waits, Refuses}
use Rattle.usb_device.specs.Calls.{In}
use Rattle.usb_device.specs.Whole.{put_off}
use Rattle.usb_device.proofs.Wholes.{done_is, waits_is, works_in}
use Rattle.usb_device.proofs.whole_transfers.confirm.Goals as goal

pub returns-in-Done : goal.returns-in-Done
returns-in-Done g c = λ past s.
    let i = c.loop-step.invariant past s in
    let before = put_off c.loop-step._step in
    let done = sym c.status_of.ensures ∙ c.in-Done.is in (
      In c.in_packet.result ∷ before,
      c.in_packet.ensures.refines (before ++ past) i.0,
      (c.loop-step._step, ap (λ x. In x ∷ before) (done_is c.in_packet.result done)),
      works_in g.E.Endpoints.refines g.E.Works.works past before c.in_packet.result Done done (λ e. (let x : Done ≡ Waits = e in cc)) i.1,
    )

pub returns-in-Refuses : goal.returns-in-Refuses
returns-in-Refuses g c = λ past s.
    let i = c.loop-step.invariant past s in
    let before = put_off c.loop-step._step in
    let refuses = sym c.status_of.ensures ∙ c.in-Refuses.is in (
      In c.in_packet.result ∷ before,
      c.in_packet.ensures.refines (before ++ past) i.0,
      (c.in_packet.result, c.loop-step._step, refuses, refl),
      works_in g.E.Endpoints.refines g.E.Works.works past before c.in_packet.result Refuses refuses (λ e. (let x : Refuses ≡ Waits = e in cc)) i.1,
    )

pub loop-step-preserved : goal.loop-step-preserved
loop-step-preserved g c = λ past s.
    let i = c.loop-step.invariant past s in
    let before = put_off c.loop-step._step in
    let waits = waits_is c.in_packet.result (sym c.status_of.ensures ∙ c.in-Waits.is) in
    let P : EpAnswer → Type 0 = λ x. g.E.Endpoints.refines (In x ∷ before ++ past) c.in_packet.new.self in
    let asked = subst P waits (c.in_packet.ensures.refines (before ++ past) i.0) in
    simp unary_clauses (c.work.ensures.refines (In Nak ∷ before ++ past) asked, ((c.in_packet.new.self, c.work.new.self, asked, c.work.ensures.made), i.1))
