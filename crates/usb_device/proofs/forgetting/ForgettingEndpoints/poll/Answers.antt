use Rattle.std.proofs.Common.{sym, ap, ◌∙◌}
use Rattle.std.specs.Option.{option_map}
use Rattle.usb_device.proofs.Blanks.{on_poll, on_blank}
use Rattle.usb_device.proofs.forgetting.ForgettingEndpoints.poll.Goals as goal

pub returns-in-Some-clause-refines : goal.returns-in-Some-clause-refines
returns-in-Some-clause-refines g c = λ calls s. on_blank g.E.Endpoints.refines calls c.in-Some.report.items c.args.self.now.forgets _ c.args.self.now.behind c.polled.ensures
    (sym c.first.ensures ∙ ap (λ x. option_map (λ r. r.items) x) c.in-Some.is) s

pub returns-in-None-clause-refines : goal.returns-in-None-clause-refines
returns-in-None-clause-refines g c = λ calls s. on_poll g.E.Endpoints.refines calls _ c.args.self.now.forgets _ c.args.self.now.behind _ c.polled-in-None.ensures
    (sym c.first.ensures ∙ ap (λ x. option_map (λ r. r.items) x) c.in-None.is) c.poll-report.ensures.refines s
