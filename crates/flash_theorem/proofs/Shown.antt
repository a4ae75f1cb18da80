-- What is shown of a flash that was not started.
use Rattle.std.proofs.Common.{◌≡◌, ◌<◌, ℕ, List, Option, None, Some, refl, sym, subst}
use Rattle.flash_model.specs.Image.{IsImage, page_count}
use Rattle.flash_model.specs.Operations.{MayProgram, MayErase}
use Rattle.flash_model.proofs.ByMask.{no_program, no_erase}
use Rattle.flash_theorem.specs.Interrupted.{shows}

module _ {F : Type 0} (image : F → List ℕ) where
  pub shown_is_image : (flash : Option F) (before : List ℕ) → IsImage before → ((f : F) → flash ≡ Some f → IsImage (image f)) → IsImage (shows image flash before)
  shown_is_image None before i h = i
  shown_is_image (Some f) before i h = h f refl

  -- it is as before
  pub program_lost : (flash : Option F) (before : List ℕ) (page slot : ℕ) (bytes : List ℕ) → ((f : F) → flash ≡ Some f → image f ≡ before) → MayProgram (shows image flash before) page slot bytes before
  program_lost None before page slot bytes h = no_program before page slot bytes
  program_lost (Some f) before page slot bytes h = subst (λ (x : List ℕ). MayProgram x page slot bytes before) (sym (h f refl)) (no_program before page slot bytes)

  pub erase_lost : (flash : Option F) (before : List ℕ) (page : ℕ) → ((f : F) → flash ≡ Some f → image f ≡ before) → MayErase (shows image flash before) page before
  erase_lost None before page h = no_erase before page
  erase_lost (Some f) before page h = subst (λ (x : List ℕ). MayErase x page before) (sym (h f refl)) (no_erase before page)

  pub in_none : (flash : Option F) (before : List ℕ) (page pages : ℕ) → flash ≡ None → page_count before ≡ pages → page < page_count (shows image flash before) → page < pages
  in_none None before page pages e p l = subst (λ (n : ℕ). page < n) p l
  in_none (Some f) before page pages e p l = cc
