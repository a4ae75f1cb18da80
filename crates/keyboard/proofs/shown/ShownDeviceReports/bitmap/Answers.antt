use Rattle.keyboard.specs.Keys.{key_calls}
use Rattle.keyboard.proofs.Viewing.{view_bitmap}
use Rattle.keyboard.proofs.shown.ShownDeviceReports.bitmap.Goals as goal

pub returns : goal.returns
returns g c view s = view_bitmap g.D.Defaults.defaults s.start s.past view _ s.view_is (c.bitmap.ensures (key_calls g.D.Defaults.defaults s.start s.past) s.keys)
