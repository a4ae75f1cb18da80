use Rattle.std.proofs.Common.{◌∙◌}
use Rattle.world.proofs.Here.{here}
use Rattle.flash_theorem.proofs.Leaving.{cut_leaves}
use Rattle.flash_theorem.proofs.Stepping.{cut_in_work_goes_on}
use Rattle.flash_theorem.proofs.board.cut_in_work.Goals as goal

pub returns-in-Ok-clause-takes : goal.returns-in-Ok-clause-takes
returns-in-Ok-clause-takes g c start past s =
    let image = (here g.D.Defaults.defaults start past s.world.answered).image ∙ s.image_is in
    let a = c.in-Ok.ensures.answered _ _ s.world.keyboard image in
    rw c.cut_off-reported.ensures.reported
    (cut_in_work_goes_on g.D.Defaults.defaults start past _ _ _ _ _ _ c.args.whole c.args.starts.now a.0 s c.pages-before.ensures.whole c.in-Ok.ensures.kept a.1 c.cut_off-reported.ensures.refines (c.cut_off-reported.ensures.host _ s.world.host))

pub returns-in-Ok-clause-leaves : goal.returns-in-Ok-clause-leaves
returns-in-Ok-clause-leaves g c start past s =
    let image = (here g.D.Defaults.defaults start past s.world.answered).image ∙ s.image_is in
    cut_leaves g.D.Defaults.defaults g.F.RestartableFlash.rests g.F.RestartableFlash.cuts start past _ c.args.whole _ (c.in-Ok.ensures.cut _ _ s.world.keyboard image)
