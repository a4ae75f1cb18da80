use Rattle.std.proofs.Common.{◌∙◌}
use Rattle.steady_flash.proofs.Claiming.{if_any}
use Rattle.steady_flash.proofs.Switching.{calm_prepared, calm_same}
use Rattle.steady_flash.proofs.moving.prepare.Goals as goal

pub returns-clause-erased_marks : goal.returns-clause-erased_marks
returns-clause-erased_marks g c = if_any c.erase_slots.result _ (λ m l. c.erase_slots.ensures.marks c.args.layout.now.spare m ∙ c.in_ok-erase_marks.ensures.outcome m l)

pub returns-in_err-erase_marks-clause-calm : goal.returns-in_err-erase_marks-clause-calm
returns-in_err-erase_marks-clause-calm g c = λ k. calm_prepared _ (g.F.MarkedFlash.marks c.args.flash.now) (g.F.MarkedFlash.marks c.erase_marks.new.flash) c.args.layout.now c.erase_marks.ensures.marks c.erase_marks.ensures.no_newer k

pub returns-clause-calm : goal.returns-clause-calm
returns-clause-calm g c = λ k.
    calm_same _ (g.F.MarkedFlash.marks c.erase_marks.new.flash) (g.F.MarkedFlash.marks c.erase_slots.new.flash) c.args.layout.now c.erase_slots.ensures.marks
    (calm_prepared _ (g.F.MarkedFlash.marks c.args.flash.now) (g.F.MarkedFlash.marks c.erase_marks.new.flash) c.args.layout.now c.erase_marks.ensures.marks c.erase_marks.ensures.no_newer k)
