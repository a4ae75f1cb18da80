use Rattle.std.proofs.Common.{◌≡◌, ◌++◌, List, ℕ, ◌*◌, ◌≤◌, length}
use Rattle.usb_device.specs.Calls.{EpCall}
use Rattle.usb_device.specs.WholeReads.{in_calls, joined, GoOn}
use Rattle.usb_device.proofs.whole_reads.receive.Given as goal

abbrev pub invariant-loop-packet : goal.invariant-loop-packet
invariant-loop-packet g l = record {
  came : (past : List EpCall) → g.E.Endpoints.refines past l.fn.device
      → (packets : List (List ℕ)) × g.E.Endpoints.refines (in_calls packets ++ past) l.device × GoOn l.asked packets × (length packets ≡ l._packet) × (l.bytes.items ≡ joined packets);
  fits : length l.bytes.items ≤ 8 * l._packet;
}
