use Rattle.std.proofs.Common.{◌∙◌, ap}
use Rattle.world.specs.declared.event.Answer.TheVariants as answer
use Rattle.world.specs.Kinds.{work_reported}
use Rattle.world.proofs.Here.{here}
use Rattle.flash_theorem.proofs.Leaving.{work_leaves}
use Rattle.flash_theorem.proofs.Stepping.{work_goes_on}
use Rattle.flash_theorem.proofs.board.worked.Goals as goal

pub returns-clause-takes : goal.returns-clause-takes
returns-clause-takes g c host start past s =
    let image = (here g.D.Defaults.defaults start past s.world.answered).image ∙ s.image_is in
    rw c.just.ensures
    (work_goes_on g.D.Defaults.defaults start past _ _ host _ _ c.work-work.result s c.pages-before.ensures.whole c.pages-after.ensures.whole (c.work-work.ensures.refines _ _ s.world.keyboard image) (c.work-work.ensures.answer _ _ s.world.keyboard image))

pub returns-clause-leaves : goal.returns-clause-leaves
returns-clause-leaves g c start past host s =
    let image = (here g.D.Defaults.defaults start past s.world.answered).image ∙ s.image_is in
    work_leaves g.D.Defaults.defaults g.F.NorFlash.operates start past c.work-work.result _ _ _
    (c.work-work.ensures.answer _ _ s.world.keyboard image) (c.work-work.ensures.operated _ _ s.world.keyboard image) c.work-work.ensures.untouched

pub returns-clause-faultless : goal.returns-clause-faultless
returns-clause-faultless g c n h =
    let f = c.work-work.ensures.faultless n h in
    rw c.just.ensures (λ some. f.0 (λ e. some (ap answer.Worked e)), λ e. f.1 (ap work_reported e))

pub returns-clause-idle : goal.returns-clause-idle
returns-clause-idle g c = rw c.just.ensures (λ e. c.work-work.ensures.untouched (ap work_reported e))
