use Rattle.usb_device.proofs.Blanks.{on_setup}
use Rattle.usb_device.proofs.forgetting.ForgettingEndpoints.setup.Goals as goal

pub returns-clause-refines : goal.returns-clause-refines
returns-clause-refines g c = λ calls s. on_setup g.E.Endpoints.refines calls c.args.packet c.args.self.now.forgets _ c.args.self.now.behind _ c.setup.ensures c.setup-2.ensures.refines s
