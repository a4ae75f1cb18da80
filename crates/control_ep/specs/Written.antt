-- Trusted where this crate is called: the answer to an IN packet whose bytes are written into a buffer of 8, and to an OUT packet.
use Rattle.shapes.specs.Shapes.{Bytes}
use Rattle.std.specs.Prelude.{◌≤◌, take}
use Rattle.control_ep.specs.declared.answer.EpAnswer.{EpAnswer}
use Rattle.control_ep.specs.declared.answer.EpAnswer.TheVariants as Answer
use Rattle.control_ep.specs.declared.answer.InAnswer.{InAnswer}
use Rattle.control_ep.specs.declared.answer.InAnswer.TheVariants.{Nak, Packet, Stall}
use Rattle.control_ep.specs.declared.answer.OutAnswer.{OutAnswer}
use Rattle.control_ep.specs.declared.answer.OutAnswer.TheVariants as Out
use Rattle.control_ep.specs.declared.answer.OutStep.{OutStep}
use Rattle.control_ep.specs.declared.answer.OutStep.TheVariants as Step
use Rattle.control_ep.specs.declared.answer.Received.{Received}
use Rattle.control_ep.specs.declared.answer.Received.TheVariants.{Answered, Leds, Offer}

-- what it tells, together with the buffer
abbrev pub as_answer : InAnswer → Bytes → EpAnswer
as_answer Nak buffer = Answer.Nak
as_answer (Packet n) buffer = Answer.Packet (record { items = take n buffer })
as_answer (Stall why) buffer = Answer.Stall why

-- the packet is within the buffer
abbrev pub HasRoom : InAnswer → Type 0
HasRoom (Packet n) = n ≤ 8
HasRoom _ = Unit {0}

-- an answer to an OUT packet as one to any packet
abbrev pub out_answer : OutAnswer → EpAnswer
out_answer Out.Ack = Answer.Ack
out_answer Out.Nak = Answer.Nak
out_answer (Out.Stall why) = Answer.Stall why

-- what an OUT packet comes to
abbrev pub as_step : Received → OutStep
as_step (Answered answer) = Step.Answered (out_answer answer)
as_step (Leds leds) = Step.Leds leds
as_step (Offer bytes) = Step.Offer bytes
