-- A cut of the power inside the operation that the flash work makes next.
use Rattle.std.proofs.Common.{◌≡◌, ℕ, Some, List, ap, sym, ◌∙◌}
use Rattle.flash_model.specs.Image.{IsImage}
use Rattle.layers.specs.Codes.{DefaultCodes}
use Rattle.page_turnover.specs.declared.operation.Operation.{Operation}
use Rattle.page_turnover.specs.Next.{MayMake}
use Rattle.keymap_store.specs.Store.{working as working_in}
use Rattle.keymap_store.specs.Next.{next_operation_of}
use Rattle.keymap_store.specs.Cut.{KeymapAfter, recorded, as_before}
use Rattle.keymap_store.proofs.Cutting.{cut_leaves}
use Rattle.keyboard.specs.Calls.{Call, image_after}
use Rattle.keyboard.specs.Restart.{RestartsLegally}
use Rattle.keyboard.specs.representation.Value.{KeyboardValue, at_work}
use Rattle.keyboard.specs.representation.Relation.{Refines}
use Rattle.keyboard.proofs.Restarting.{restarts_with, restarts_without}

module _ (defaults : DefaultCodes) where
  by_keymap : (start : List ℕ) (past : List Call) (keyboard : KeyboardValue) (operation : Operation) (image : List ℕ) → Refines defaults start past keyboard
      → KeymapAfter defaults (image_after start past) keyboard.store.job operation image → RestartsLegally defaults start past image
  by_keymap start past keyboard operation image s (recorded command is e) =
      let working_is : at_work keyboard ≡ Some command = ap working_in is.0 in
      restarts_with defaults start past command image s.answered (sym s.now.works ∙ working_is) e
  by_keymap start past keyboard operation image s (as_before n e) = restarts_without defaults start past image s.answered e

  pub restarts_inside : (start : List ℕ) (past : List Call) (keyboard : KeyboardValue) (operation : Operation) (image : List ℕ) → Refines defaults start past keyboard
      → next_operation_of defaults (image_after start past) keyboard.store ≡ Some operation → IsImage image → MayMake (image_after start past) operation image
      → RestartsLegally defaults start past image
  restarts_inside start past keyboard operation image s n i m =
      by_keymap start past keyboard operation image s
      (cut_leaves defaults (image_after start past) image keyboard.store operation s.now.store n i m).keymap
