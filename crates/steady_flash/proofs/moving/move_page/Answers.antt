use Rattle.std.proofs.Common.{◌≡◌, ℕ, ◌∙◌, Option}
use Rattle.steady_flash.specs.Cells.{Written}
use Rattle.steady_flash.specs.Layout.{held_at}
use Rattle.steady_flash.specs.Moves.{IsCopy, IsCopiedTo}
use Rattle.steady_flash.specs.declared.moving.Changed.{Changed}
use Rattle.std.proofs.lemmas.Result.{err_from_is_err_and}
use Rattle.steady_flash.proofs.Claiming.{claimed_prepared, claimed_same}
use Rattle.steady_flash.proofs.Switching.{calm_same, stopped_fault}
use Rattle.steady_flash.proofs.Bumping.{not_in_doubt, either_way}
use Rattle.steady_flash.proofs.moving.move_page.Goals as goal

pub returns-clause-claimed : goal.returns-clause-claimed
returns-clause-claimed g c = λ k.
    let claimed = rw (c.copy.ensures.same_size, c.prepare.ensures.same_size) at c.switch.ensures.claimed in
    claimed
    (claimed_same _ (g.F.MarkedFlash.marks c.prepare.new.flash) (g.F.MarkedFlash.marks c.copy.new.flash) c.args.layout.now c.copy.ensures.marks
    (claimed_prepared _ (g.F.MarkedFlash.marks c.args.flash.now) (g.F.MarkedFlash.marks c.prepare.new.flash) c.args.layout.now c.prepare.ensures.marks c.in_ok-prepare.ensures.erased_marks k))
    (λ m l. c.copy.ensures.marks c.args.layout.now.spare m ∙ c.in_ok-prepare.ensures.erased_marks m l)

pub returns-clause-calm : goal.returns-clause-calm
returns-clause-calm g c = λ k.
    let calm = rw (c.copy.ensures.same_size, c.prepare.ensures.same_size) at c.switch.ensures.calm in
    calm
    (calm_same _ (g.F.MarkedFlash.marks c.prepare.new.flash) (g.F.MarkedFlash.marks c.copy.new.flash) c.args.layout.now c.copy.ensures.marks (c.prepare.ensures.calm k))
    (λ m l. c.copy.ensures.marks c.args.layout.now.spare m ∙ c.in_ok-prepare.ensures.erased_marks m l)

pub returns-in_err-prepare-clause-calm : goal.returns-in_err-prepare-clause-calm
returns-in_err-prepare-clause-calm g c = λ k.
    let p = err_from_is_err_and c.from_residual.result c.from_residual.ensures.1 in
    rw (p.1, p.2) (stopped_fault _ (g.F.MarkedFlash.marks c.prepare.new.flash) c.args.layout.now c.args.page _ c.in_err-prepare.ensures.fault (c.prepare.ensures.calm k))

pub returns-in_err-copy-clause-calm : goal.returns-in_err-copy-clause-calm
returns-in_err-copy-clause-calm g c = λ k.
    let p = err_from_is_err_and c.from_residual-in_err-copy.result c.from_residual-in_err-copy.ensures.1 in
    rw (p.1, p.2) (stopped_fault _ (g.F.MarkedFlash.marks c.copy.new.flash) c.args.layout.now c.args.page _ c.in_err-copy.ensures.fault
    (calm_same _ (g.F.MarkedFlash.marks c.prepare.new.flash) (g.F.MarkedFlash.marks c.copy.new.flash) c.args.layout.now c.copy.ensures.marks (c.prepare.ensures.calm k)))

copied_there : (old one two new : ℕ → ℕ → Written) (from to s : ℕ) (changed : Option Changed) → one from s ≡ old from s → new to s ≡ two to s → IsCopiedTo (one from s) changed s (two to s) → IsCopiedTo (old from s) changed s (new to s)
copied_there old one two new from to s changed e f c = rw f (rw e at c)

pub returns-in_err-prepare-clause-copied : goal.returns-in_err-prepare-clause-copied
returns-in_err-prepare-clause-copied g c =
    let p = err_from_is_err_and c.from_residual.result c.from_residual.ensures.1 in
    rw (p.1, p.2) (λ e. absurd (not_in_doubt _ c.in_err-prepare.ensures.fault e))

pub returns-in_err-copy-clause-copied : goal.returns-in_err-copy-clause-copied
returns-in_err-copy-clause-copied g c =
    let p = err_from_is_err_and c.from_residual-in_err-copy.result c.from_residual-in_err-copy.ensures.1 in
    rw (p.1, p.2) (λ e. absurd (not_in_doubt _ c.in_err-copy.ensures.fault e))

pub returns-clause-copied : goal.returns-clause-copied
returns-clause-copied g c =
    let copy : IsCopy (g.F.MarkedFlash.slots c.args.flash.now) (held_at c.args.layout.now.held c.args.page).page c.args.changed (g.F.MarkedFlash.slots c.switch.new.flash) c.args.layout.now.spare = λ s b. copied_there (g.F.MarkedFlash.slots c.args.flash.now) (g.F.MarkedFlash.slots c.prepare.new.flash) (g.F.MarkedFlash.slots c.copy.new.flash) (g.F.MarkedFlash.slots c.switch.new.flash) (held_at c.args.layout.now.held c.args.page).page c.args.layout.now.spare s c.args.changed
    (c.prepare.ensures.others (held_at c.args.layout.now.held c.args.page).page s (c.requires.laid_out.free c.args.page c.requires.in_pages)) (c.switch.ensures.slots c.args.layout.now.spare s)
    (c.in_ok-copy.ensures.outcome (c.requires.laid_out.free c.args.page c.requires.in_pages) c.in_ok-prepare.ensures.outcome s b) in
    either_way c.switch.result _ _ copy
