use Rattle.std.specs.Option.{option_map}
use Rattle.usb_device.specs.declared.guarded.Guarded.{Guarded}
use Rattle.usb_device.specs.Calls.{Polled}
use Rattle.usb_device.specs.Guarding.{passed}
use Rattle.usb_device.proofs.Locking.{on_poll, goes_on, GoesOn}
use Rattle.usb_device.proofs.guarded.GuardedEndpoints.poll.Goals as goal

pub returns : goal.returns
returns g c =
    let refines = g.E.Endpoints.refines in
    let call = Polled (option_map (λ r. r.items) c.poll.result) in
    let new : Guarded _ = record { guard = c.args.self.now.guard; behind = c.poll.new.self } in
    let reported : GoesOn refines call c.args.self.now new = λ pace past s.
    on_poll refines pace past _ c.args.self.now.guard c.args.self.now.behind _ (c.poll.ensures.refines (passed pace past)) s in
    record { reported = reported; kept = goes_on refines call c.args.self.now new reported }
