use Rattle.keyboard.proofs.Viewing.{view_protocol}
use Rattle.keyboard.proofs.shown.ShownDeviceReports.protocol.Goals as goal

pub returns : goal.returns
returns g c view s = view_protocol g.D.Defaults.defaults s.start s.past view _ s.view_is s.protocol
