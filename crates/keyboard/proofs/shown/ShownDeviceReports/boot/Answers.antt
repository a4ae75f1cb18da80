use Rattle.keyboard.specs.Keys.{key_calls}
use Rattle.keyboard.proofs.Viewing.{view_boot}
use Rattle.keyboard.proofs.shown.ShownDeviceReports.boot.Goals as goal

pub returns : goal.returns
returns g c view s = view_boot g.D.Defaults.defaults s.start s.past view _ s.view_is (c.boot.ensures (key_calls g.D.Defaults.defaults s.start s.past) s.keys)
