use Rattle.std.proofs.Common.{◌≡◌, Some, ap, ◌∙◌}
use Rattle.keymap_store.specs.declared.store.Work.{Work}
use Rattle.keyboard.specs.Calls.{Worked, keymap}
use Rattle.keyboard.specs.Conforming.{IsAnswered}
use Rattle.keyboard.specs.Restart.{RestartsLegally}
use Rattle.flash_theorem.specs.WorkCut.{WorkIsCut}
use Rattle.flash_theorem.proofs.Inside.{each_ok, ok_is, of_ok, work_is_cut}
use Rattle.flash_theorem.proofs.work_cut.Goals as goal

pub returns-clause-legal : goal.returns-clause-legal
returns-clause-legal g c start past s e =
    of_ok g.F.NorFlash.image c.end.result _ (λ image. RestartsLegally g.D.Defaults.defaults start past image) c.end.ensures.image (c.work-work.ensures.legal start past s (rw c.new-interrupted.ensures e))

pub returns-clause-acknowledged : goal.returns-clause-acknowledged
returns-clause-acknowledged g c start past layer key code s e a =
    of_ok g.F.NorFlash.image c.end.result _ (λ image. keymap g.D.Defaults.defaults image layer key ≡ code) c.end.ensures.image (c.work-work.ensures.acknowledged start past layer key code s (rw c.new-interrupted.ensures e) a)

pub returns-clause-answered : goal.returns-clause-answered
returns-clause-answered g c start past s e =
    of_ok g.F.NorFlash.image c.end.result _ (λ image. (work : Work) × IsAnswered g.D.Defaults.defaults start past (Worked work image)) c.end.ensures.image (c.work-work.result, c.work-work.ensures.answer start past s (rw c.new-interrupted.ensures e))

pub returns-clause-cut : goal.returns-clause-cut
returns-clause-cut g c start past s e =
    let was = ap (λ i. i.flash) c.new-interrupted.ensures in
    let lost = ap (λ i. i.loss) c.new-interrupted.ensures in
    each_ok (λ next. WorkIsCut g.D.Defaults.defaults g.F.RestartableFlash.rests g.F.RestartableFlash.cuts start past c.args.flash c.args.whole next) c.end.result
    (λ next is. work_is_cut g.D.Defaults.defaults g.F.RestartableFlash.rests g.F.RestartableFlash.cuts start past _ c.args.flash c.args.whole c.new-interrupted.result c.work-work.new.flash next c.work-work.result was lost
    (λ none. ok_is (λ x. c.work-work.new.flash.flash ≡ Some x) c.end.result next is (c.end.ensures.same none))
    (c.work-work.ensures.answer start past s (rw c.new-interrupted.ensures e)) (c.work-work.ensures.operated start past s (rw c.new-interrupted.ensures e))
    (λ idle. (let same = c.work-work.ensures.untouched idle in ok_is (λ x. g.F.RestartableFlash.rests c.args.flash x) c.end.result next is (c.end.ensures.rests c.args.flash c.args.whole (ap (λ i. i.flash) same ∙ was) (ap (λ i. i.loss) same ∙ lost)))))
