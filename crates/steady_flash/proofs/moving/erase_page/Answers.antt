use Rattle.std.proofs.Common.{◌∙◌}
use Rattle.steady_flash.specs.Moves.{IsErasedPage}
use Rattle.std.proofs.lemmas.Result.{err_from_is_err_and}
use Rattle.steady_flash.proofs.Claiming.{claimed_prepared}
use Rattle.steady_flash.proofs.Switching.{stopped_fault}
use Rattle.steady_flash.proofs.Bumping.{not_in_doubt, either_way}
use Rattle.steady_flash.proofs.moving.erase_page.Goals as goal

pub returns-clause-claimed : goal.returns-clause-claimed
returns-clause-claimed g c = λ k.
    let claimed = rw c.prepare.ensures.same_size at c.switch.ensures.claimed in
    claimed (claimed_prepared _ (g.F.MarkedFlash.marks c.args.flash.now) (g.F.MarkedFlash.marks c.prepare.new.flash) c.args.layout.now c.prepare.ensures.marks c.in_ok-prepare.ensures.erased_marks k) c.in_ok-prepare.ensures.erased_marks

pub returns-clause-calm : goal.returns-clause-calm
returns-clause-calm g c = λ k.
    let calm = rw c.prepare.ensures.same_size at c.switch.ensures.calm in
    calm (c.prepare.ensures.calm k) c.in_ok-prepare.ensures.erased_marks

pub returns-in_err-prepare-clause-calm : goal.returns-in_err-prepare-clause-calm
returns-in_err-prepare-clause-calm g c = λ k.
    let p = err_from_is_err_and c.from_residual.result c.from_residual.ensures.1 in
    rw (p.1, p.2) (stopped_fault _ (g.F.MarkedFlash.marks c.prepare.new.flash) c.args.layout.now c.args.page _ c.in_err-prepare.ensures.fault (c.prepare.ensures.calm k))

pub returns-in_err-prepare-clause-erased : goal.returns-in_err-prepare-clause-erased
returns-in_err-prepare-clause-erased g c =
    let p = err_from_is_err_and c.from_residual.result c.from_residual.ensures.1 in
    rw (p.1, p.2) (λ e. absurd (not_in_doubt _ c.in_err-prepare.ensures.fault e))

pub returns-clause-erased : goal.returns-clause-erased
returns-clause-erased g c =
    let gone : IsErasedPage (g.F.MarkedFlash.slots c.switch.new.flash) c.args.layout.now.spare = λ s b. c.switch.ensures.slots c.args.layout.now.spare s ∙ c.in_ok-prepare.ensures.outcome s b in
    either_way c.switch.result _ _ gone
