use Rattle.usb_device.specs.declared.guarded.Guarded.{Guarded}
use Rattle.usb_device.specs.Calls.{SetUp}
use Rattle.usb_device.specs.Guarding.{passed}
use Rattle.usb_device.proofs.Locking.{on_setup, goes_on, GoesOn}
use Rattle.usb_device.proofs.guarded.GuardedEndpoints.setup.Goals as goal

pub returns : goal.returns
returns g c =
    let refines = g.E.Endpoints.refines in
    let new : Guarded _ = record { guard = c.setup.new.self; behind = c.setup-2.new.self } in
    let reported : GoesOn refines (SetUp c.args.packet) c.args.self.now new = λ pace past s.
    on_setup refines pace past c.args.packet c.args.self.now.guard _ c.args.self.now.behind _ c.setup.ensures (c.setup-2.ensures.refines (passed pace past)) s in
    record { reported = reported; kept = goes_on refines (SetUp c.args.packet) c.args.self.now new reported }
