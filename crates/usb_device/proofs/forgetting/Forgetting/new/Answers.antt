use Rattle.usb_device.proofs.Blanks.{begun}
use Rattle.usb_device.proofs.forgetting.Forgetting.new.Goals as goal

pub returns : goal.returns
returns g c = begun g.E.Endpoints.refines c.new.result c.args.behind c.new.ensures
