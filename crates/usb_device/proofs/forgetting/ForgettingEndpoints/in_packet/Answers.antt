use Rattle.usb_device.proofs.Blanks.{on_in}
use Rattle.usb_device.proofs.forgetting.ForgettingEndpoints.in_packet.Goals as goal

pub returns-clause-refines : goal.returns-clause-refines
returns-clause-refines g c = λ calls s. on_in g.E.Endpoints.refines calls c.in_packet-answer.result c.args.self.now.forgets _ c.args.self.now.behind _ c.answered.ensures c.in_packet-answer.ensures.refines s
