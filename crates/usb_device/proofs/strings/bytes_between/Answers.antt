use Rattle.std.proofs.Common.{arith, ◌+◌, ◌*◌, ◌∷◌, flat_map, length}
use Rattle.std.proofs.lemmas.Grind.{common_steps}
use Rattle.usb_device.specs.Strings.{unit_bytes}
use Rattle.usb_device.proofs.Places.{one_more, length-bytes}
use Rattle.usb_device.proofs.strings.bytes_between.Goals as goal

pub loop-place-preserved : goal.loop-place-preserved
loop-place-preserved c =
    let n = 2 + 2 * length c.args.units.now in
    let e = length-bytes n c.args.units.now in
    let more = one_more (n ∷ 3 ∷ flat_map unit_bytes c.args.units.now) c.args.start c.loop-place.place c.loop-place.invariant.in_order
    (omega (arith, e, c.requires.there, c.loop-place-test.true)) in
    grind (arith, common_steps)
