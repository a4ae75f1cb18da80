use Rattle.keyboard.specs.Keys.{key_calls}
use Rattle.keyboard.proofs.Viewing.{view_consumer}
use Rattle.keyboard.proofs.shown.ShownDeviceReports.consumer.Goals as goal

pub returns : goal.returns
returns g c view s = view_consumer g.D.Defaults.defaults s.start s.past view _ s.view_is (c.consumer.ensures (key_calls g.D.Defaults.defaults s.start s.past) s.keys)
