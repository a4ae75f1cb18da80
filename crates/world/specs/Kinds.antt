-- Trusted: what kind each step is. The look-backs over a history ask for the kind, so that a new event has to be placed
-- here alone.
use Rattle.shapes.specs.Shapes.{Bytes}
use Rattle.std.specs.Prelude.{Bool, Option, None, Some}
use Rattle.flash_model.specs.Sim.{SimValue}
use Rattle.control_ep.specs.declared.answer.EpAnswer.{EpAnswer}
use Rattle.control_ep.specs.declared.answer.EpAnswer.TheVariants as ep
use Rattle.keymap_store.specs.declared.store.Work.{Work as WorkAnswer}
use Rattle.keymap_store.specs.declared.store.Work.TheVariants.{Idle}
use Rattle.keyboard.specs.Calls.{Call, Scanned, SetUp, Out, In, Polled, Worked as KeyboardWorked, BusReset as KeyboardReset}
use Rattle.world.specs.declared.event.Event.{Event}
use Rattle.world.specs.declared.event.Event.TheVariants.{Scan, Setup, OutPacket, InPacket, Poll, Work, WorkFault, Cut, CutInWork, BusReset, Entry, SlotAt, Leds}
use Rattle.world.specs.declared.event.Answer.{Answer}
use Rattle.world.specs.declared.event.Answer.TheVariants.{Ack, Nak, Packet, Stall, Sent, Worked}

-- an event, its answer, the flash after it (its bytes, both counts, and what is armed), and whether a growth of the host
-- was refused in it
pub record Step : Type 0 where
  pub event : Event
  pub answer : Answer
  pub flash : SimValue
  pub refused : Bool

-- an answer of endpoint 0, as it is told
abbrev pub as_answer : EpAnswer → Answer
as_answer ep.Ack = Ack
as_answer ep.Nak = Nak
as_answer (ep.Packet packet) = Packet packet
as_answer (ep.Stall why) = Stall why

-- and back. No packet has an answer that is none of endpoint 0 (`Answered`, in `Conforming`), so what it counts as is no matter
abbrev pub ep_reported : Answer → EpAnswer
ep_reported Ack = ep.Ack
ep_reported (Packet packet) = ep.Packet packet
ep_reported (Stall why) = ep.Stall why
ep_reported _ = ep.Nak

-- the bytes of a report that was sent, if one was
abbrev pub bytes_reported : Answer → Option Bytes
bytes_reported (Sent bytes reading) = Some bytes.items
bytes_reported _ = None

-- what a step of the flash work came to; no such step has another answer
abbrev pub work_reported : Answer → WorkAnswer
work_reported (Worked work) = work
work_reported _ = Idle

-- what a step is to the keyboard
pub data Kind : Type 0 where
  -- the power was cut, between two flash operations or inside one, and the keyboard starts on its flash
  starts : Kind
  -- a call of the keyboard, with its answer
  calls : Call → Kind
  -- a look, which changes nothing
  looks : Kind

-- the kind of an event with its answer and the flash's image after it
abbrev pub kind_of : Event → Answer → Bytes → Kind
kind_of (Scan scan) answer image = calls (Scanned scan)
kind_of (Setup bytes) answer image = calls (SetUp bytes)
kind_of (OutPacket packet) answer image = calls (Out packet.items (ep_reported answer))
kind_of InPacket answer image = calls (In (ep_reported answer))
kind_of Poll answer image = calls (Polled (bytes_reported answer))
kind_of Work answer image = calls (KeyboardWorked (work_reported answer) image)
kind_of (WorkFault mask) answer image = calls (KeyboardWorked (work_reported answer) image)
kind_of Cut answer image = starts
kind_of (CutInWork mask) answer image = starts
kind_of BusReset answer image = calls KeyboardReset
kind_of (Entry layer key) answer image = looks
kind_of (SlotAt page slot) answer image = looks
kind_of Leds answer image = looks

-- the kind of a step
abbrev pub kind : Step → Kind
kind step = kind_of step.event step.answer step.flash.image
