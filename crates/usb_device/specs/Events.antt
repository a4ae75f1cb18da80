-- Trusted: what the USB device layer met on the bus, and what it answered.
use Rattle.std.specs.Prelude.{ℕ, Bool, List}
use Rattle.usb_device.specs.declared.answer.EpAnswer.{EpAnswer}
use Rattle.usb_device.specs.declared.answer.PollAnswer.{PollAnswer}

pub data Event : Type 0 where
  -- a SETUP packet of endpoint 0
  SetupCame : (bytes : List ℕ) → Event
  -- an OUT packet of endpoint 0, and its answer
  OutCame : (packet : List ℕ) → (answer : EpAnswer) → Event
  -- the answer to an IN token of endpoint 0
  InAsked : (answer : EpAnswer) → Event
  -- the answer to an IN token of endpoint 1
  PollAsked : (answer : PollAnswer) → Event
  -- a bus reset
  ResetCame : Event
  -- the bus is suspended (section 7.1.7.6), and goes on (section 7.1.7.7)
  SuspendCame : Event
  ResumeCame : Event
  -- the controller saw that the host has the status packet of its transfer
  StatusSeen : Event
  -- a scan of the matrix, each millisecond
  ScanCame : Event
  -- it was asked whether to signal a remote wakeup, where a report was under way or not, and its answer
  WakeAsked : (has_report : Bool) → (answer : Bool) → Event
