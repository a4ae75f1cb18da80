-- Trusted: the session of the device behind the USB device layer: what it was asked on endpoints 0 and 1, and what it answered.
use Rattle.std.specs.Prelude.{ℕ, List, Option}
use Rattle.usb_device.specs.declared.answer.EpAnswer.{EpAnswer}

-- a call of the device behind
pub data EpCall : Type 0 where
  SetUp : (bytes : List ℕ) → EpCall
  Out : (packet : List ℕ) → (answer : EpAnswer) → EpCall
  In : (answer : EpAnswer) → EpCall
  Polled : (answer : Option (List ℕ)) → EpCall
  BusReset : EpCall
