use Rattle.std.proofs.Common.{[], subst}
use Rattle.keyboard.specs.representation.Relation as keyboard_refines
use Rattle.flash_theorem.proofs.Stepping.{cut_goes_on}
use Rattle.flash_theorem.proofs.board.cut.Goals as goal

pub returns-in-Ok-clause-takes : goal.returns-in-Ok-clause-takes
returns-in-Ok-clause-takes g c start past s =
    let same = c.power_off.ensures.image c.in-Ok.flash c.in-Ok.ensures.starts in
    rw (c.cut_off-reported.ensures.reported, same)
    (cut_goes_on g.D.Defaults.defaults start past _ _ _ _ _ c.args.starts.now s (subst (λ image. keyboard_refines.Refines g.D.Defaults.defaults image [] c.cut_off-reported.new.keyboard) same c.cut_off-reported.ensures.refines) (c.cut_off-reported.ensures.host _ s.world.host))
