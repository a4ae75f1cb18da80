use Rattle.std.proofs.Common.{refl, ap, ◌∙◌, ◌∷◌}
use Rattle.control_ep.specs.declared.answer.OutStep.TheVariants.{Offer}
use Rattle.control_ep.specs.Written.{out_answer}
use Rattle.keyboard.specs.Calls.{image_after}
use Rattle.keyboard.specs.Endpoint.{ep_calls}
use Rattle.keyboard.specs.representation.Value.{KeyboardValue}
use Rattle.keyboard.proofs.Standing.{refines_answered, refines_leds}
use Rattle.keyboard.proofs.Offering.{refines_offered, offer_reported, reported_answer, reported_ep}
use Rattle.keyboard.proofs.keyboard.KeyboardOf.answer_out.Goals as goal

pub returns-in-Answered-clause-refines : goal.returns-in-Answered-clause-refines
returns-in-Answered-clause-refines g c start past s =
    let t = rw (← c.self.view_is) at s in
    refines_answered g.D.Defaults.defaults start past c.args.packet.now (out_answer c.in-Answered.answer) c.received.new.self _ t (c.in-Answered.ensures.step (ep_calls g.D.Defaults.defaults start past) t.now.ep) (c.in-Answered.ensures.refines (ep_calls g.D.Defaults.defaults start past) t.now.ep)

pub returns-in-Leds-clause-refines : goal.returns-in-Leds-clause-refines
returns-in-Leds-clause-refines g c start past s =
    let t = rw (← c.self.view_is) at s in
    refines_leds g.D.Defaults.defaults start past c.args.packet.now c.in-Leds.leds c.received.new.self _ t (c.in-Leds.ensures.step (ep_calls g.D.Defaults.defaults start past) t.now.ep) (c.in-Leds.ensures.refines (ep_calls g.D.Defaults.defaults start past) t.now.ep)

pub returns-in-Offer-clause-refines : goal.returns-in-Offer-clause-refines
returns-in-Offer-clause-refines g c start past s =
    let t = rw (← c.self.view_is) at s in
    let checked = c.check_command-verdict.ensures (image_after start past) t.now.store in
    let due = c.in-Offer.ensures.offer in
    let held = reported_ep g.D.Defaults.defaults _ _ _ _ _ checked.leaves (ap (λ (k : KeyboardValue). k.ep) c.self-in-Offer.view_is) in
    let answer = reported_answer _ _ _ c.judged.ensures.answer (held ∙ due.1 ∙ due.0) in
    rw (← c.self-in-Offer.view_is) at
    (refines_offered g.D.Defaults.defaults start past c.args.packet.now c.in-Offer.bytes c.check_command-verdict.result (out_answer c.judged.result) _ _ _ c.judged.new.self
    (offer_reported g.D.Defaults.defaults start past c.args.packet.now c.in-Offer.bytes c.check_command-verdict.result _ _ c.check_command-verdict.new.self c.judged.new.self t (c.in-Offer.ensures.step (ep_calls g.D.Defaults.defaults start past) t.now.ep) refl checked answer
    (c.judged.ensures.refines (Rattle.control_ep.specs.Calls.Out c.args.packet.now (Offer c.in-Offer.bytes) ∷ ep_calls g.D.Defaults.defaults start past) (rw held (c.in-Offer.ensures.refines (ep_calls g.D.Defaults.defaults start past) t.now.ep)) refl))
    answer)

pub returns-in-Offer-clause-answer : goal.returns-in-Offer-clause-answer
returns-in-Offer-clause-answer g c start past s = (returns-in-Offer-clause-refines g c start past s).answered.0

pub returns-in-Offer-clause-runs_on : goal.returns-in-Offer-clause-runs_on
returns-in-Offer-clause-runs_on g c image r =
    let checked = c.check_command-verdict.ensures image (rw (← c.self.view_is) at r) in
    rw (← c.self-in-Offer.view_is) at checked.runs_on
