-- Trusted: the session of a keyboard as that of a device behind the USB device layer: without scans and flash work, and without the
-- reasons of a STALL.
use Rattle.std.specs.Prelude.{Bool, true, false, List, [], ◌∷◌}
use Rattle.control_ep.specs.declared.answer.EpAnswer.{EpAnswer as Answer}
use Rattle.control_ep.specs.declared.answer.EpAnswer.TheVariants as Answers
use Rattle.keymap_store.specs.declared.store.Work.{Work}
use Rattle.keymap_store.specs.declared.store.Work.TheVariants as Works
use Rattle.usb_device.specs.declared.answer.EpAnswer.{EpAnswer}
use Rattle.usb_device.specs.declared.answer.EpAnswer.TheVariants as Plains
use Rattle.usb_device.specs.Calls.{EpCall, SetUp, Out, In, Polled, BusReset}
use Rattle.keyboard.specs.Calls as Keyboards
use Rattle.keyboard.specs.Calls.{Call}

abbrev pub plain : Answer → EpAnswer
plain Answers.Ack = Plains.Ack
plain Answers.Nak = Plains.Nak
plain (Answers.Packet packet) = Plains.Packet packet
plain (Answers.Stall why) = Plains.Stall

abbrev pub usb_calls : List Call → List EpCall
usb_calls [] = []
usb_calls (Keyboards.Scanned scan ∷ before) = usb_calls before
usb_calls (Keyboards.SetUp bytes ∷ before) = SetUp bytes ∷ usb_calls before
usb_calls (Keyboards.Out packet answer ∷ before) = Out packet (plain answer) ∷ usb_calls before
usb_calls (Keyboards.In answer ∷ before) = In (plain answer) ∷ usb_calls before
usb_calls (Keyboards.Polled answer ∷ before) = Polled answer ∷ usb_calls before
usb_calls (Keyboards.Worked work image ∷ before) = usb_calls before
usb_calls (Keyboards.BusReset ∷ before) = BusReset ∷ usb_calls before

-- a step of the flash work is due behind an OUT packet that was acknowledged, and behind a step that says so
abbrev pub is_taken : EpAnswer → Bool
is_taken Plains.Ack = true
is_taken _ = false

abbrev pub works_on : Work → Bool
works_on Works.Working = true
works_on _ = false
