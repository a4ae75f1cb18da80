use Rattle.usb_device.specs.declared.guarded.Guarded.{Guarded}
use Rattle.usb_device.specs.Calls.{BusReset}
use Rattle.usb_device.specs.Guarding.{passed}
use Rattle.usb_device.proofs.Locking.{on_reset, goes_on, GoesOn}
use Rattle.usb_device.proofs.guarded.GuardedEndpoints.bus_reset.Goals as goal

pub returns : goal.returns
returns g c =
    let refines = g.E.Endpoints.refines in
    let new : Guarded _ = record { guard = c.reset.new.self; behind = c.bus_reset.new.self } in
    let reported : GoesOn refines BusReset c.args.self.now new = λ pace past s.
    on_reset refines pace past c.args.self.now.guard _ c.args.self.now.behind _ c.reset.ensures (c.bus_reset.ensures.refines (passed pace past)) s in
    record { reported = reported; kept = goes_on refines BusReset c.args.self.now new reported }
