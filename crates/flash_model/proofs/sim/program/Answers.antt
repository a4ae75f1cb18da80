use Rattle.flash_model.proofs.Writes.{programs}
use Rattle.flash_model.proofs.sim.program.Goals as goal

pub returns-clause-programmed : goal.returns-clause-programmed
returns-clause-programmed c =
    programs c.args.image.now c.args.page c.args.slot c.args.with c.clear.new.image c.requires.in_page
    (record { same_length = c.clear.auto.image; changed = c.clear.ensures.changed; kept = c.clear.ensures.kept })
