use Rattle.keyboard.specs.Keys.{key_calls}
use Rattle.keyboard.proofs.Viewing.{view_idle_one}
use Rattle.keyboard.proofs.shown.ShownDeviceReports.idle_one.Goals as goal

pub returns : goal.returns
returns g c view s = view_idle_one g.D.Defaults.defaults s.start s.past view _ s.view_is (c.idle.ensures (key_calls g.D.Defaults.defaults s.start s.past) s.keys)
