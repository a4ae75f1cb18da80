use Rattle.std.proofs.Common.{◌*◌, ◌∙◌, take, sym, subst}
use Rattle.flash_model.specs.Operations.{MayProgram}
use Rattle.flash_model.proofs.ByMask.{no_program}
use Rattle.flash_theorem.specs.Interrupted.{Interruption, shows}
use Rattle.flash_theorem.proofs.Shown.{shown_is_image, program_lost}
use Rattle.flash_theorem.proofs.interrupted.InterruptedNorFlash.program_slot.Goals as goal
use Rattle.flash_theorem.proofs.interrupted.InterruptedNorFlash.program_slot.Goals.{in-Some-2, in-None-2}

pub returns-in_default-clause-outcome : goal.returns-in_default-clause-outcome
returns-in_default-clause-outcome g c = rw (← c.self.view_is) (no_program _ _ _ _)

pub returns-in_default-clause-whole : goal.returns-in_default-clause-whole
returns-in_default-clause-whole g c = shown_is_image g.F.NorFlash.image c.self.inside.flash _ c.self.invariant.0 (λ flash e. (c.self.invariant.2 flash e).0)

pub returns-in_default-take-clause-outcome : goal.returns-in_default-take-clause-outcome
returns-in_default-take-clause-outcome g c =
    rw (← c.self.view_is, c.take-2.ensures.after) (program_lost g.F.NorFlash.image c.self.inside.flash _ c.args.page c.args.slot c.args.bytes (λ f e. c.self.invariant.3 f c.in-Some.whole e (sym c.take.ensures.value ∙ c.in-Some.is)))

pub returns-in-Err-clause-outcome : goal.returns-in-Err-clause-outcome
returns-in-Err-clause-outcome g c =
    let lost = subst (λ (s : Interruption g.row.F.Denot). MayProgram (shows g.F.NorFlash.image s.flash s.before) c.args.page c.args.slot c.args.bytes (take (4096 * c.self.inside.pages) c.self.inside.bytes)) c.self.view_is
    (program_lost g.F.NorFlash.image c.self.inside.flash _ c.args.page c.args.slot c.args.bytes (λ f e. c.self.invariant.3 f c.in-Some.whole e (sym c.take.ensures.value ∙ c.in-Some.is))) in
    elim c.match-self-2.branch [ in-Some-2 w ↦ rw (w.self-is, c.take-2.ensures.after) lost | in-None-2 w ↦ rw (w.self-is, c.take-2.ensures.after) lost ]
