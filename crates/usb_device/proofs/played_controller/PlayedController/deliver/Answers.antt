use Rattle.std.proofs.Common.{true, ap, sym}
use Rattle.usb_device.specs.representation.Played0.{played_bus_0, mode_by}
use Rattle.usb_device.proofs.Playing0.{took, lost}
use Rattle.usb_device.proofs.played_controller.PlayedController.deliver.Goals as goal

pub returns-then-is_acknowledged-clause-moved : goal.returns-then-is_acknowledged-clause-moved
returns-then-is_acknowledged-clause-moved c =
    let later = c.is_got.ensures.noted (search) c.if-is_got.true in
    let p = c.in-Packet.packet.items in
    let has = c.args.self.now.has in
    took (played_bus_0 c.args.self.now) p has _ (ap (λ m. mode_by m has) c.in-Packet.is) (rw (sym c.as_slice.ensures.value) later)

pub returns-else-is_acknowledged-clause-moved : goal.returns-else-is_acknowledged-clause-moved
returns-else-is_acknowledged-clause-moved c =
    let later = c.is_got.ensures.noted (search) c.if-is_got.true in
    let p = c.in-Packet.packet.items in
    let has = c.args.self.now.has in
    lost (played_bus_0 c.args.self.now) p has _ _ (ap (λ m. mode_by m has) c.in-Packet.is) (ap (λ m. mode_by m true) c.in-Packet.is) (rw (sym c.as_slice.ensures.value) later)
