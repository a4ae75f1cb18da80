use Rattle.keyboard.proofs.Viewing.{view_leds}
use Rattle.keyboard.proofs.shown.ShownDeviceReports.leds.Goals as goal

pub returns : goal.returns
returns g c view s = view_leds g.D.Defaults.defaults s.start s.past view _ s.view_is s.leds
