use Rattle.flash_model.proofs.ByMask.{programs_by_mask, may_program}
use Rattle.flash_model.proofs.masks.program.Goals as goal

pub returns-clause-by_mask : goal.returns-clause-by_mask
returns-clause-by_mask c =
    programs_by_mask c.args.image.now c.args.page c.args.slot c.args.with c.args.mask.now c.clear.new.image c.requires.in_page
    (record { same_length = c.clear.auto.image; changed = c.clear.ensures.changed; kept = c.clear.ensures.kept })

pub returns-clause-torn : goal.returns-clause-torn
returns-clause-torn c = may_program c.args.image.now c.args.page c.args.slot c.args.with c.args.mask.now c.clear.new.image (returns-clause-by_mask c)
