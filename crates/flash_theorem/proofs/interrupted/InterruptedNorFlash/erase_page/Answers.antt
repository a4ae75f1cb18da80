use Rattle.std.proofs.Common.{◌*◌, ◌∙◌, take, sym, subst}
use Rattle.flash_model.specs.Operations.{MayErase}
use Rattle.flash_theorem.specs.Interrupted.{Interruption, shows}
use Rattle.flash_theorem.proofs.Shown.{shown_is_image, erase_lost}
use Rattle.flash_theorem.proofs.interrupted.InterruptedNorFlash.erase_page.Goals as goal
use Rattle.flash_theorem.proofs.interrupted.InterruptedNorFlash.erase_page.Goals.{in-Some-2, in-None-2}

pub returns-in_default-clause-whole : goal.returns-in_default-clause-whole
returns-in_default-clause-whole g c = shown_is_image g.F.NorFlash.image c.self.inside.flash _ c.self.invariant.0 (λ flash e. (c.self.invariant.2 flash e).0)

pub returns-in-Err-clause-outcome : goal.returns-in-Err-clause-outcome
returns-in-Err-clause-outcome g c =
    let lost = subst (λ (s : Interruption g.row.F.Denot). MayErase (shows g.F.NorFlash.image s.flash s.before) c.args.page (take (4096 * c.self.inside.pages) c.self.inside.bytes)) c.self.view_is
    (erase_lost g.F.NorFlash.image c.self.inside.flash _ c.args.page (λ f e. c.self.invariant.3 f c.in-Some.whole e (sym c.take.ensures.value ∙ c.in-Some.is))) in
    elim c.match-self-2.branch [ in-Some-2 w ↦ rw (w.self-is, c.take-2.ensures.after) lost | in-None-2 w ↦ rw (w.self-is, c.take-2.ensures.after) lost ]
