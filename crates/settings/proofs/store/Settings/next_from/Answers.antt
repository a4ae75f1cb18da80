use Rattle.settings.proofs.Whole.{changed_nothing}
use Rattle.settings.proofs.store.Settings.next_from.Goals as goal

pub returns : goal.returns
returns g c = rw (changed_nothing (g.F.NorFlash.image c.args.flash.now)) at c.next_value.ensures
