-- Trusted: the events of the device layer as calls of a device: what it shows to whoever stands before it.
use Rattle.std.specs.Prelude.{List, [], ◌∷◌}
use Rattle.usb_device.specs.Calls.{EpCall, SetUp, Out, In, Polled, BusReset}
use Rattle.usb_device.specs.Events.{Event, SetupCame, OutCame, InAsked, PollAsked, ResetCame}
use Rattle.usb_device.specs.Steps.{polled_of}

-- the call that an event is, on those before; suspend, resume and wakeup are none
abbrev pub with_call : Event → List EpCall → List EpCall
with_call (SetupCame bytes) calls = SetUp bytes ∷ calls
with_call (OutCame packet answer) calls = Out packet answer ∷ calls
with_call (InAsked answer) calls = In answer ∷ calls
with_call (PollAsked answer) calls = Polled (polled_of answer) ∷ calls
with_call ResetCame calls = BusReset ∷ calls
with_call _ calls = calls

abbrev pub calls_of : List Event → List EpCall
calls_of [] = []
calls_of (event ∷ past) = with_call event (calls_of past)
