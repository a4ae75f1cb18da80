-- Which operation a power loss inside a step of the flash work falls into.
use Rattle.std.proofs.Common.{◌≡◌, ◌≢◌, ℕ, List, Option, None, Some, Result, Ok, Err, IfOk, refl, sym, subst}
use Rattle.flash_model.specs.FlashOperation.{FlashOperation}
use Rattle.flash_model.specs.Image.{IsImage}
use Rattle.layers.specs.Codes.{DefaultCodes}
use Rattle.layers.specs.declared.command.Command.{Command}
use Rattle.page_turnover.specs.Next.{on_flash}
use Rattle.keymap_store.specs.declared.store.Work.{Work}
use Rattle.keymap_store.specs.declared.store.Work.TheVariants.{Idle, Working, Settled, Failed}
use Rattle.keyboard.specs.Calls.{Call}
use Rattle.keyboard.specs.Commands.{working}
use Rattle.keyboard.specs.Conforming.{WorkedOn, MakesSuch}
use Rattle.flash_theorem.specs.Interrupted.{Interruption, Interrupts}
use Rattle.flash_theorem.specs.WorkCut.{WorkIsCut, idles, fails}

-- what holds of an answer that is Ok
pub each_ok : {A E : Type 0} (R : A → Type 0) (r : Result A E) → ((x : A) → r ≡ Ok x → R x) → IfOk r R
each_ok R (Ok x) f = f x refl
each_ok R (Err x) f = tt

pub ok_is : {A E : Type 0} (P : A → Type 0) (r : Result A E) (x : A) → r ≡ Ok x → IfOk r P → P x
ok_is P r x e h = subst (λ (q : Result _ _). IfOk q P) e h

-- what holds of the image that is shown holds of that of the flash, where there is one
pub of_ok : {A E : Type 0} (image : A → List ℕ) (r : Result A E) (shown : List ℕ) (P : List ℕ → Type 0) → IfOk r (λ x. (image x ≡ shown) × IsImage (image x)) → P shown → IfOk r (λ x. P (image x))
of_ok image (Ok x) shown P e p = subst P (sym e.0) p
of_ok image (Err x) shown P e p = tt

module _ (defaults : DefaultCodes) where
  pub idle_rests : (start : List ℕ) (past : List Call) (command : Option Command) (new : List ℕ) → WorkedOn defaults start past command Idle new → command ≡ None
  idle_rests start past None new w = refl
  idle_rests start past (Some command) new w = absurd w.outcome

  module _ {F : Type 0} (rests : F → F → Type 0) (cuts : F → FlashOperation → ℕ → F → Type 0) (start : List ℕ) (past : List Call) (image : List ℕ) (old : F) (whole : ℕ) (begun ended : Interruption F) (next : F) where
    made_fails : (work : Work) → begun.flash ≡ Some old → begun.loss ≡ Some whole → (ended.loss ≡ None → ended.flash ≡ Some next)
        → MakesSuch defaults start past work image (λ operation. Interrupts cuts begun (on_flash operation) ended) → WorkIsCut defaults rests cuts start past old whole next
    made_fails work b l e m = fails m.command m.step.operation m.works_on m.step.advances.in_order (m.is_such.cut old next whole b l (e m.is_such.lost))

    pub work_is_cut : (work : Work) → begun.flash ≡ Some old → begun.loss ≡ Some whole → (ended.loss ≡ None → ended.flash ≡ Some next)
        → WorkedOn defaults start past (working defaults start past) work image
        → (work ≢ Idle → MakesSuch defaults start past work image (λ operation. Interrupts cuts begun (on_flash operation) ended))
        → (work ≡ Idle → rests old next) → WorkIsCut defaults rests cuts start past old whole next
    work_is_cut Idle b l e w made idle = idles (idle_rests start past (working defaults start past) image w) (idle refl)
    work_is_cut Working b l e w made idle = made_fails Working b l e (made (λ e. cc))
    work_is_cut Settled b l e w made idle = made_fails Settled b l e (made (λ e. cc))
    work_is_cut Failed b l e w made idle = made_fails Failed b l e (made (λ e. cc))
