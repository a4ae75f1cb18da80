use Rattle.std.proofs.Common.{sym, ap, ◌∙◌}
use Rattle.usb_device.specs.declared.answer.EpAnswer.TheVariants.{Nak, Stall}
use Rattle.usb_device.specs.declared.guarded.Guarded.{Guarded}
use Rattle.usb_device.specs.Calls.{Out}
use Rattle.usb_device.specs.Guarding.{passed}
use Rattle.usb_device.specs.representation.Guarded.{passage_view}
use Rattle.usb_device.proofs.Locking.{on_out_refused, on_out_waits, on_out, goes_on, GoesOn}
use Rattle.usb_device.proofs.guarded.GuardedEndpoints.out.Goals as goal

pub returns-in-Refuses : goal.returns-in-Refuses
returns-in-Refuses g c =
    let refines = g.E.Endpoints.refines in
    let call = Out c.args.packet.now Stall in
    let new : Guarded _ = record { guard = c.refuse.new.self; behind = c.args.self.now.behind } in
    let reported : GoesOn refines call c.args.self.now new = λ pace past s.
    on_out_refused refines pace past c.args.packet.now c.args.self.now.guard _ c.args.self.now.behind
    (sym c.passage.ensures ∙ ap passage_view c.in-Refuses.is) c.refuse.ensures s in
    record { reported = reported; kept = goes_on refines call c.args.self.now new reported }

pub returns-in-Waits : goal.returns-in-Waits
returns-in-Waits g c =
    let refines = g.E.Endpoints.refines in
    let call = Out c.args.packet.now Nak in
    let reported : GoesOn refines call c.args.self.now c.args.self.now = λ pace past s.
    on_out_waits refines pace past c.args.packet.now c.args.self.now.guard c.args.self.now.behind
    (sym c.passage.ensures ∙ ap passage_view c.in-Waits.is) s in
    record { reported = reported; kept = goes_on refines call c.args.self.now c.args.self.now reported }

pub returns-in-Passes : goal.returns-in-Passes
returns-in-Passes g c =
    let refines = g.E.Endpoints.refines in
    let call = Out c.args.packet.now c.out-answer.result in
    let new : Guarded _ = record { guard = c.note.new.self; behind = c.out-answer.new.self } in
    let reported : GoesOn refines call c.args.self.now new = λ pace past s.
    on_out refines pace past c.args.packet.now c.out-answer.result c.args.self.now.guard _ c.args.self.now.behind _
    (sym c.passage.ensures ∙ ap passage_view c.in-Passes.is) c.note.ensures (c.out-answer.ensures.refines (passed pace past)) s in
    record { reported = reported; kept = goes_on refines call c.args.self.now new reported }
