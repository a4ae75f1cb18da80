use Rattle.std.proofs.Common.{◌≡◌, refl, inl, inr, ap, ◌∙◌}
use Rattle.std.proofs.lemmas.Bool.{false≢true}
use Rattle.steady_flash.specs.Cells.{Written}
use Rattle.steady_flash.specs.Sound.{IsNoNewer}
use Rattle.steady_flash.proofs.moving.erase_marks.Goals as goal

no_newer_then : (old mid new : Written) → IsNoNewer old mid → new.begun ≡ mid.begun → IsNoNewer old new
no_newer_then old mid new n e = elim n [
  | inl none ↦ inl (e ∙ none)
  | inr same ↦ inr (e ∙ same)
]

pub loop-tried-init : goal.loop-tried-init
loop-tried-init g c = record { same_size = refl; slots = λ p i. refl; healthy = λ h. (refl, h); marks = λ p i apart. refl; no_newer = λ m b. inr refl }

pub loop-tried-preserved : goal.loop-tried-preserved
loop-tried-preserved g c =
    let v = c.loop-tried.invariant in
    record {
      same_size = c.erase_marks.ensures.same_size ∙ v.same_size;
      slots = λ p i. c.erase_marks.ensures.slots p i ∙ v.slots p i;
      healthy = λ h. absurd (false≢true (c.in-Err.ensures.healthy (v.healthy h).1).0);
      marks = λ p i apart. c.erase_marks.ensures.others p i apart ∙ v.marks p i apart;
      no_newer = λ m b. no_newer_then (g.F.MarkedFlash.marks c.args.flash.now c.args.at m) (g.F.MarkedFlash.marks c.loop-tried.flash c.args.at m) (g.F.MarkedFlash.marks c.erase_marks.new.self c.args.at m) (v.no_newer m b) (c.in-Err.ensures.outcome m (rw v.same_size b)).begun;
    }

pub returns-in-Ok-clause-no_newer : goal.returns-in-Ok-clause-no_newer
returns-in-Ok-clause-no_newer g c = λ m b. inl (ap (λ (w : Written). w.begun) (c.in-Ok.ensures.outcome m (rw c.loop-tried.invariant.same_size b)))
