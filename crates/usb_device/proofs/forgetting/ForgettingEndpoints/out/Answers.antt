use Rattle.usb_device.proofs.Blanks.{on_out}
use Rattle.usb_device.proofs.forgetting.ForgettingEndpoints.out.Goals as goal

pub returns-clause-refines : goal.returns-clause-refines
returns-clause-refines g c = λ calls s. on_out g.E.Endpoints.refines calls c.args.packet.now c.out.result c.args.self.now.forgets c.args.self.now.behind _ c.out.ensures.refines s
