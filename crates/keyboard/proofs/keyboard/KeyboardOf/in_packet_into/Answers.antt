use Rattle.std.proofs.Common.{refl, sym, ◌∙◌, ◌≡◌}
use Rattle.control_ep.specs.Answers.{in_effect}
use Rattle.control_ep.specs.Written.{as_answer}
use Rattle.control_ep.specs.declared.answer.Effect.TheVariants.{Nothing, Idle, SetProtocol}
use Rattle.keyboard.specs.Keys.{key_calls}
use Rattle.keyboard.specs.Endpoint.{ep_calls, stage_after}
use Rattle.keyboard.proofs.Standing.{refines_in}
use Rattle.keyboard.proofs.keyboard.KeyboardOf.in_packet_into.Goals as goal

pub returns-in-Nothing-clause-refines : goal.returns-in-Nothing-clause-refines
returns-in-Nothing-clause-refines g c start past s =
    let t = rw (← c.self.view_is) at s in
    let is : Nothing ≡ in_effect (stage_after g.D.Defaults.defaults start past) = sym c.in-Nothing.is ∙ c.in_packet_into-answer.ensures.effect (ep_calls g.D.Defaults.defaults start past) t.now.ep in
    refines_in g.D.Defaults.defaults start past (as_answer c.in_packet_into-answer.result.0 c.in_packet_into-answer.new.packet) Nothing c.in_packet_into-answer.new.self _ _ _ t (c.in_packet_into-answer.ensures.answer (ep_calls g.D.Defaults.defaults start past) t.now.ep) is
    (rw c.in-Nothing.is at c.in_packet_into-answer.ensures.refines (ep_calls g.D.Defaults.defaults start past) t.now.ep) t.now.keys refl

pub returns-in-Idle-clause-refines : goal.returns-in-Idle-clause-refines
returns-in-Idle-clause-refines g c start past s =
    let t = rw (← c.self.view_is) at s in
    let is : Idle c.in-Idle.id c.in-Idle.duration ≡ in_effect (stage_after g.D.Defaults.defaults start past) = sym c.in-Idle.is ∙ c.in_packet_into-answer.ensures.effect (ep_calls g.D.Defaults.defaults start past) t.now.ep in
    refines_in g.D.Defaults.defaults start past (as_answer c.in_packet_into-answer.result.0 c.in_packet_into-answer.new.packet) (Idle c.in-Idle.id c.in-Idle.duration) c.in_packet_into-answer.new.self c.set_idle.new.self _ _ t (c.in_packet_into-answer.ensures.answer (ep_calls g.D.Defaults.defaults start past) t.now.ep) is
    (rw c.in-Idle.is at c.in_packet_into-answer.ensures.refines (ep_calls g.D.Defaults.defaults start past) t.now.ep) (c.set_idle.ensures (key_calls g.D.Defaults.defaults start past) t.now.keys) refl

pub returns-in-SetProtocol-clause-refines : goal.returns-in-SetProtocol-clause-refines
returns-in-SetProtocol-clause-refines g c start past s =
    let t = rw (← c.self.view_is) at s in
    let is : SetProtocol c.in-SetProtocol.protocol ≡ in_effect (stage_after g.D.Defaults.defaults start past) = sym c.in-SetProtocol.is ∙ c.in_packet_into-answer.ensures.effect (ep_calls g.D.Defaults.defaults start past) t.now.ep in
    refines_in g.D.Defaults.defaults start past (as_answer c.in_packet_into-answer.result.0 c.in_packet_into-answer.new.packet) (SetProtocol c.in-SetProtocol.protocol) c.in_packet_into-answer.new.self c.forget_sent.new.self c.in-SetProtocol.protocol _ t (c.in_packet_into-answer.ensures.answer (ep_calls g.D.Defaults.defaults start past) t.now.ep) is
    (rw c.in-SetProtocol.is at c.in_packet_into-answer.ensures.refines (ep_calls g.D.Defaults.defaults start past) t.now.ep) (c.forget_sent.ensures (key_calls g.D.Defaults.defaults start past) t.now.keys) refl
