use Rattle.std.proofs.Common.{sym, ◌∙◌}
use Rattle.usb_device.specs.declared.answer.EpAnswer.TheVariants.{Stall}
use Rattle.usb_device.specs.declared.guarded.Guarded.{Guarded}
use Rattle.usb_device.specs.Calls.{In}
use Rattle.usb_device.specs.Guarding.{passed}
use Rattle.usb_device.proofs.Locking.{on_in_refused, on_in, goes_on, GoesOn}
use Rattle.usb_device.proofs.guarded.GuardedEndpoints.in_packet.Goals as goal

pub returns-then-is_refused : goal.returns-then-is_refused
returns-then-is_refused g c =
    let refines = g.E.Endpoints.refines in
    let reported : GoesOn refines (In Stall) c.args.self.now c.args.self.now = λ pace past s.
    on_in_refused refines pace past c.args.self.now.guard c.args.self.now.behind (sym c.is_refused.ensures ∙ c.if-is_refused.true) s in
    record { reported = reported; kept = goes_on refines (In Stall) c.args.self.now c.args.self.now reported }

pub returns-else-is_refused : goal.returns-else-is_refused
returns-else-is_refused g c =
    let refines = g.E.Endpoints.refines in
    let new : Guarded _ = record { guard = c.args.self.now.guard; behind = c.in_packet.new.self } in
    let reported : GoesOn refines (In c.in_packet.result) c.args.self.now new = λ pace past s.
    on_in refines pace past c.in_packet.result c.args.self.now.guard c.args.self.now.behind _ (sym c.is_refused.ensures ∙ c.if-is_refused.false)
    (c.in_packet.ensures.refines (passed pace past)) s in
    record { reported = reported; kept = goes_on refines (In c.in_packet.result) c.args.self.now new reported }
