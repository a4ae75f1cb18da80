use Rattle.usb_device.proofs.Blanks.{on_reset}
use Rattle.usb_device.proofs.forgetting.ForgettingEndpoints.bus_reset.Goals as goal

pub returns-clause-refines : goal.returns-clause-refines
returns-clause-refines g c = λ calls s. on_reset g.E.Endpoints.refines calls c.args.self.now.forgets _ c.args.self.now.behind _ c.new-self.ensures c.bus_reset.ensures.refines s
