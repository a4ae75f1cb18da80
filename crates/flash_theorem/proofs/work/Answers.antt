use Rattle.std.proofs.Common.{◌∷◌, ap, subst}
use Rattle.keyboard.specs.Calls.{Worked}
use Rattle.keyboard.specs.Restart.{RestartsLegally}
use Rattle.flash_theorem.proofs.Cut.{acknowledged_before, legal_left}
use Rattle.flash_theorem.proofs.work.Goals as goal

pub returns-clause-legal : goal.returns-clause-legal
returns-clause-legal g c start past s e =
    legal_left g.D.Defaults.defaults start past c.work.result _ _ (c.work.ensures.cut start past s e) (λ idle. ap g.F.NorFlash.image (c.work.ensures.untouched idle)) (subst (RestartsLegally g.D.Defaults.defaults start past) e (c.restarts_are_legal.ensures g.D.Defaults.defaults start past s.answered))

pub returns-clause-acknowledged : goal.returns-clause-acknowledged
returns-clause-acknowledged g c start past layer key code s e a =
    c.acknowledged_is_stored.ensures g.D.Defaults.defaults start (Worked c.work.result (g.F.NorFlash.image c.work.new.flash) ∷ past) (c.work.ensures.refines start past s e).answered layer key code (acknowledged_before g.D.Defaults.defaults past c.work.result _ layer key code a)
