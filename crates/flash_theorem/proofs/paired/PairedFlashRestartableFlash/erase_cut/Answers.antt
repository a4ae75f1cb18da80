use Rattle.std.proofs.Common.{ap, ◌∙◌, Some, refl, subst}
use Rattle.flash_model.specs.FlashOperation.{erases}
use Rattle.ecc_flash.specs.Cut.{CutOperates, PairOperates}
use Rattle.flash_theorem.proofs.Torn.{erase_torn}
use Rattle.flash_theorem.proofs.paired.PairedFlashRestartableFlash.erase_cut.Goals as goal

pub returns-clause-outcome : goal.returns-clause-outcome
returns-clause-outcome g c next e =
    rw (e, c.mount.ensures, c.into_flash-3.ensures, c.into_flash-2.ensures.same)
    (erase_torn c.erase_page-torn.result _ _ _ _ (rw (c.mount-cut.ensures, c.new.ensures, c.into_flash.ensures.same) refl) c.pages-pages.ensures.whole c.erase_page-torn.ensures.outcome)

pub returns-clause-cuts : goal.returns-clause-cuts
returns-clause-cuts g c next e =
    let begun = ap (λ p. p.0) c.mount-cut.ensures ∙ c.new.ensures ∙ ap (λ f. (f, Some c.args.whole)) c.into_flash.ensures.same in
    rw (e, c.mount.ensures, c.into_flash-3.ensures, c.into_flash-2.ensures.same)
    (c.erase_page-torn.new.self.0.1, subst (λ f. PairOperates (λ cut. g.F.EccFlash.units cut.0) (CutOperates g.F.EccFlash.operates) f (erases c.args.page) c.erase_page-torn.new.self.0) begun c.erase_page-torn.ensures.operated)
