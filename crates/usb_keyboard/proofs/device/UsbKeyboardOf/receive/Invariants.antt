use Rattle.std.proofs.Common.{◌≡◌, ◌++◌, List, ℕ, ◌*◌, ◌≤◌, length}
use Rattle.keyboard.specs.Calls.{Call}
use Rattle.usb_device.specs.WholeReads.{joined, GoOn}
use Rattle.usb_keyboard.specs.Whole.{in_calls}
use Rattle.usb_keyboard.specs.representation.Relation.{RunsSince}
use Rattle.usb_keyboard.proofs.device.UsbKeyboardOf.receive.Given as goal

abbrev pub invariant-loop-packet : goal.invariant-loop-packet
invariant-loop-packet g l = record {
  came : (start : List ℕ) (past : List Call) → RunsSince g.D.Defaults.defaults start past l.fn.self.0 (g.F.NorFlash.image l.fn.self.1)
      → (packets : List (List ℕ)) × RunsSince g.D.Defaults.defaults start (in_calls packets ++ past) l.self.0 (g.F.NorFlash.image l.self.1) × GoOn l.asked packets × (length packets ≡ l._packet)
      × (l.bytes.items ≡ joined packets);
  fits : length l.bytes.items ≤ 8 * l._packet;
  flash : l.self.1 ≡ l.fn.self.1;
}
