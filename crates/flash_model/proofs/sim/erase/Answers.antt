use Rattle.flash_model.proofs.Writes.{erases}
use Rattle.flash_model.proofs.sim.erase.Goals as goal

pub returns-clause-erased : goal.returns-clause-erased
returns-clause-erased c =
    erases c.args.image.now c.args.page c.set.new.image c.requires.0
    (record { same_length = c.set.auto.image; changed = c.set.ensures.changed; kept = c.set.ensures.kept })
