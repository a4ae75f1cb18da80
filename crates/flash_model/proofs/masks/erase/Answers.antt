use Rattle.flash_model.proofs.ByMask.{erases_by_mask, may_erase}
use Rattle.flash_model.proofs.masks.erase.Goals as goal

pub returns-clause-by_mask : goal.returns-clause-by_mask
returns-clause-by_mask c =
    erases_by_mask c.args.image.now c.args.page c.args.mask.now c.set.new.image
    (record { same_length = c.set.auto.image; changed = c.set.ensures.changed; kept = c.set.ensures.kept })

pub returns-clause-torn : goal.returns-clause-torn
returns-clause-torn c = may_erase c.args.image.now c.args.page c.args.mask.now c.set.new.image (returns-clause-by_mask c)
