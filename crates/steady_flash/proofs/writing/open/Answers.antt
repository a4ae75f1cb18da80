use Rattle.std.proofs.Common.{refl}
use Rattle.steady_flash.proofs.Switching.{calm_open}
use Rattle.steady_flash.proofs.Calm.{calm_flagged}
use Rattle.steady_flash.proofs.Claiming.{claimed_open_mark, claimed_flagged}
use Rattle.steady_flash.proofs.writing.open.Goals as goal

pub returns-in_err-program_mark-clause-claimed : goal.returns-in_err-program_mark-clause-claimed
returns-in_err-program_mark-clause-claimed g c = λ k. claimed_open_mark _ (g.F.MarkedFlash.marks c.args.flash.now) (g.F.MarkedFlash.marks c.program_mark.new.flash) c.args.layout.now _ c.program_mark.ensures.marks k

pub returns-clause-claimed : goal.returns-clause-claimed
returns-clause-claimed g c = λ k.
    claimed_flagged _ (g.F.MarkedFlash.marks c.program_mark.new.flash) c.args.layout.now c.args.page _ c.requires.in_pages refl refl refl
    (claimed_open_mark _ (g.F.MarkedFlash.marks c.args.flash.now) (g.F.MarkedFlash.marks c.program_mark.new.flash) c.args.layout.now _ c.program_mark.ensures.marks k)

pub returns-in_err-program_mark-clause-calm : goal.returns-in_err-program_mark-clause-calm
returns-in_err-program_mark-clause-calm g c = λ k. calm_open _ (g.F.MarkedFlash.marks c.args.flash.now) (g.F.MarkedFlash.marks c.program_mark.new.flash) c.args.layout.now c.args.page c.requires.in_pages c.program_mark.ensures.marks k

pub returns-clause-calm : goal.returns-clause-calm
returns-clause-calm g c = λ k.
    calm_flagged _ (g.F.MarkedFlash.marks c.program_mark.new.flash) c.args.layout.now c.args.page _ c.requires.in_pages refl refl refl
    (calm_open _ (g.F.MarkedFlash.marks c.args.flash.now) (g.F.MarkedFlash.marks c.program_mark.new.flash) c.args.layout.now c.args.page c.requires.in_pages c.program_mark.ensures.marks k)
