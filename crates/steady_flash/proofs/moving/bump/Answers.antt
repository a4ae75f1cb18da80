use Rattle.std.proofs.Common.{◌∙◌}
use Rattle.std.proofs.lemmas.Result.{err_from_is_err_and}
use Rattle.steady_flash.specs.Sound.{IsAbout}
use Rattle.steady_flash.specs.Layout.{held_at}
use Rattle.steady_flash.proofs.Session.{answered}
use Rattle.steady_flash.proofs.Bumping.{left_then, bumped_then}
use Rattle.steady_flash.proofs.moving.bump.Goals as goal

pub returns-in_err-make_firm-clause-sound : goal.returns-in_err-make_firm-clause-sound
returns-in_err-make_firm-clause-sound g c = λ before s pages found.
    let p = err_from_is_err_and c.from_residual.result c.from_residual.ensures.1 in
    rw p.1 (c.in_err-make_firm.ensures.sound before s pages found)

pub returns-clause-sound : goal.returns-clause-sound
returns-clause-sound g c = λ before s pages found.
    let firm = c.in_ok-make_firm.ensures.sound before s pages found in
    let sound = rw c.make_firm.ensures.same_size at c.outbid.ensures.sound in
    let about : IsAbout (g.F.MarkedFlash.marks c.make_firm.new.flash) (held_at firm.0.layout.held c.args.page) = rw (firm.2.0, firm.2.1) firm.3 in
    answered c.outbid.result _ _ _ _
    (λ _ x. bumped_then _ (g.F.MarkedFlash.marks c.args.flash.now) (g.F.MarkedFlash.marks c.make_firm.new.flash) (g.F.MarkedFlash.marks c.outbid.new.flash) before firm.0 c.args.page (held_at c.outbid.new.layout.held c.args.page) firm.1 x)
    (λ _ x. left_then _ (g.F.MarkedFlash.marks c.args.flash.now) (g.F.MarkedFlash.marks c.make_firm.new.flash) (g.F.MarkedFlash.marks c.outbid.new.flash) before firm.0 c.args.page firm.1 x)
    (sound firm.0 firm.1.sound (firm.1.narrows.pages ∙ pages) firm.2 about)
