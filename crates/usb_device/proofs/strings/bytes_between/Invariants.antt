use Rattle.std.proofs.Common.{◌≡◌, ◌≤◌, ◌+◌, ◌-◌, ◌*◌, ◌∷◌, flat_map, take, drop, length}
use Rattle.usb_device.specs.Strings.{unit_bytes}
use Rattle.usb_device.proofs.strings.bytes_between.Given as goal

abbrev pub invariant-loop-place : goal.invariant-loop-place
invariant-loop-place l = record {
  built : l.bytes.items ≡ take (l.place - l.start) (drop l.start ((2 + 2 * length l.units) ∷ 3 ∷ flat_map unit_bytes l.units));
  fits : length l.bytes.items ≡ l.place - l.start;
  in_order : l.start ≤ l.place;
}
